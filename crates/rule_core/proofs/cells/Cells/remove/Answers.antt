use Rattle.std.proofs.Common.{ℕ, ◌<◌, length, arith, ap, subst, sym, ◌∙◌}
use Rattle.std.specs.List.{sum}
use Rattle.league.specs.Counts.{Counts, one_more}
use Rattle.league.specs.Instance.{IsGame}
use Rattle.rule_core.specs.Table.{Table}
use Rattle.rule_core.specs.Tables.{kept_counts}
use Rattle.rule_core.proofs.SeenLemmas.{seen}
use Rattle.rule_core.proofs.TableLemmas.{AreKept-less, away_games-ge, home_games-ge, kept-counts, place_in_rows}
use Rattle.rule_core.proofs.TableLemmas.{sum_more}
use Rattle.rule_core.proofs.cells.Cells.remove.Goals as goal
use Rattle.rule_core.proofs.ListedLemmas.{same_counts}

pub take-requires-clause-place : goal.take-requires-clause-place
take-requires-clause-place c =
    let fits : IsGame c.self.inside.n c.args.game = subst (λ (t : Table). IsGame t.n c.args.game)
    (sym c.self.view_is) c.requires.fits in
    place_in_rows c.self.inside.n c.args.game.home.0 c.args.game.slot.0 c.self.inside.homes.columns
    (length c.self.inside.homes.numbers.items) c.self.invariant.0.home_rows.wide
    c.self.invariant.0.home_rows.long fits.home fits.slot

pub take-requires-clause-there : goal.take-requires-clause-there
take-requires-clause-there c =
    let game = c.args.game in
    let fits : IsGame c.self.inside.n c.args.game = subst (λ (t : Table). IsGame t.n c.args.game)
    (sym c.self.view_is) c.requires.fits in
    let there : 0 < kept_counts c.self.inside.n c.self.inside.places.items c.self.inside.spare.items game.home.0
    game.away.0 game.slot.0 =
    subst (λ (m : Counts). 0 < m game.home.0 game.away.0 game.slot.0)
    (seen c.self.inside.n c.self.inside.places.items c.self.inside.spare.items c.args.self.now
    c.self.invariant.0.table c.self.view_is) c.requires.there in
    omega (
      arith,
      c.self.invariant.0.home game.home.0 game.slot.0,
      home_games-ge c.self.inside.n
          (kept_counts c.self.inside.n c.self.inside.places.items c.self.inside.spare.items) game.home.0 game.away.0
          game.slot.0 fits.away,
      there,
    )

pub take-requires-2-clause-place : goal.take-requires-2-clause-place
take-requires-2-clause-place c =
    let fits : IsGame c.self.inside.n c.args.game = subst (λ (t : Table). IsGame t.n c.args.game)
    (sym c.self.view_is) c.requires.fits in
    place_in_rows c.self.inside.n c.args.game.away.0 c.args.game.slot.0 c.self.inside.aways.columns
    (length c.self.inside.aways.numbers.items) c.self.invariant.0.away_rows.wide
    c.self.invariant.0.away_rows.long fits.away fits.slot

pub take-requires-2-clause-there : goal.take-requires-2-clause-there
take-requires-2-clause-there c =
    let game = c.args.game in
    let fits : IsGame c.self.inside.n c.args.game = subst (λ (t : Table). IsGame t.n c.args.game)
    (sym c.self.view_is) c.requires.fits in
    let there : 0 < kept_counts c.self.inside.n c.self.inside.places.items c.self.inside.spare.items game.home.0
    game.away.0 game.slot.0 =
    subst (λ (m : Counts). 0 < m game.home.0 game.away.0 game.slot.0)
    (seen c.self.inside.n c.self.inside.places.items c.self.inside.spare.items c.args.self.now
    c.self.invariant.0.table c.self.view_is) c.requires.there in
    omega (
      arith,
      c.self.invariant.0.away game.away.0 game.slot.0,
      away_games-ge c.self.inside.n
          (kept_counts c.self.inside.n c.self.inside.places.items c.self.inside.spare.items) game.home.0 game.away.0
          game.slot.0 fits.home,
      there,
    )

pub let_go-requires-clause-there : goal.let_go-requires-clause-there
let_go-requires-clause-there c =
    let game = c.args.game in
    subst (λ (m : Counts). 0 < m game.home.0 game.away.0 game.slot.0)
    (seen c.self.inside.n c.self.inside.places.items c.self.inside.spare.items c.args.self.now
    c.self.invariant.0.table c.self.view_is) c.requires.there

pub take-requires-clause-row : goal.take-requires-clause-row
take-requires-clause-row c =
    let fits : IsGame c.self.inside.n c.args.game = subst (λ (t : Table). IsGame t.n c.args.game)
    (sym c.self.view_is) c.requires.fits in
    omega (arith, fits.home, c.self.invariant.2.rows)

pub take-requires-clause-few : goal.take-requires-clause-few
take-requires-clause-few c = omega (arith, c.self.invariant.0.home_rows.wide, c.self.invariant.0.teams.at_most)

pub take-requires-clause-marked : goal.take-requires-clause-marked
take-requires-clause-marked c = c.self.invariant.2.marked

pub take-requires-2-clause-row : goal.take-requires-2-clause-row
take-requires-2-clause-row c =
    let fits : IsGame c.self.inside.n c.args.game = subst (λ (t : Table). IsGame t.n c.args.game)
    (sym c.self.view_is) c.requires.fits in
    omega (arith, fits.away, c.self.invariant.3.rows)

pub take-requires-2-clause-few : goal.take-requires-2-clause-few
take-requires-2-clause-few c = omega (arith, c.self.invariant.0.away_rows.wide, c.self.invariant.0.teams.at_most)

pub take-requires-2-clause-marked : goal.take-requires-2-clause-marked
take-requires-2-clause-marked c = c.self.invariant.3.marked

pub invariant_of-self : goal.invariant_of-self
invariant_of-self c =
    let game = c.args.game in
    let fits : IsGame c.self.inside.n c.args.game = subst (λ (t : Table). IsGame t.n c.args.game)
    (sym c.self.view_is) c.requires.fits in (
      AreKept-less c.self.inside.n c.self.inside.games game c.let_go.new.places.items c.self.inside.places.items
          c.let_go.new.spare.items c.self.inside.spare.items c.take.new.self c.take-2.new.self c.self.inside.homes
          c.self.inside.aways fits
          (record { by_home = c.take.ensures.less; by_away = c.take-2.ensures.less }) c.let_go.ensures.table
          c.let_go.ensures.counts c.self.invariant.0,
      omega (arith, c.let_go.ensures.room, c.self.invariant.1),
      record {
        rows = c.take.ensures.rows ∙ c.self.invariant.2.rows;
        marked = c.take.ensures.marked;
      },
      record {
        rows = c.take-2.ensures.rows ∙ c.self.invariant.3.rows;
        marked = c.take-2.ensures.marked;
      },
    )

pub returns-clause-counts : goal.returns-clause-counts
returns-clause-counts c =
    let n : ℕ = c.self.inside.n in
    let m : Counts = kept_counts n c.let_go.new.places.items c.let_go.new.spare.items in
    let more : Counts = kept_counts n c.self.inside.places.items c.self.inside.spare.items in
    ap (λ (k : Counts). one_more k c.args.game)
    (kept-counts n c.let_go.new.places.items c.let_go.new.spare.items c.let_go.ensures.table)
    ∙ sym (same_counts more (one_more m c.args.game) c.let_go.ensures.counts)
    ∙ sym (seen n c.self.inside.places.items c.self.inside.spare.items c.args.self.now c.self.invariant.0.table
    c.self.view_is)

pub returns-clause-total : goal.returns-clause-total
returns-clause-total c =
    let n : ℕ = c.self.inside.n in
    let fits : IsGame c.self.inside.n c.args.game = subst (λ (t : Table). IsGame t.n c.args.game)
    (sym c.self.view_is) c.requires.fits in
    omega (
      arith,
      sum_more n (kept_counts n c.let_go.new.places.items c.let_go.new.spare.items)
          (kept_counts n c.self.inside.places.items c.self.inside.spare.items) c.args.game fits
          c.let_go.ensures.counts,
      ap (λ (t : Table). sum t.list) c.self.view_is,
    )
