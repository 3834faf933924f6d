use Rattle.std.proofs.Common.{ℕ, ◌<◌, length, arith, ap, subst, sym, ◌∙◌}
use Rattle.std.specs.List.{sum}
use Rattle.league.specs.Counts.{Counts, one_more}
use Rattle.league.specs.Instance.{IsGame}
use Rattle.rule_core.specs.Table.{Table}
use Rattle.rule_core.specs.Tables.{kept_counts}
use Rattle.rule_core.proofs.SeenLemmas.{seen}
use Rattle.rule_core.proofs.TableLemmas.{AreKept-more, kept-away-le, kept-counts, kept-home-le, kept-le}
use Rattle.rule_core.proofs.TableLemmas.{place_in_rows}
use Rattle.rule_core.proofs.TableLemmas.{sum_more}
use Rattle.rule_core.proofs.cells.Cells.add.Goals as goal
use Rattle.rule_core.proofs.ListedLemmas.{same_counts}

pub add-requires-clause-place : goal.add-requires-clause-place
add-requires-clause-place c =
    let fits : IsGame c.self.inside.n c.args.game = subst (λ (t : Table). IsGame t.n c.args.game)
    (sym c.self.view_is) c.requires.fits in
    place_in_rows c.self.inside.n c.args.game.home.0 c.args.game.slot.0 c.self.inside.homes.columns
    (length c.self.inside.homes.numbers.items) c.self.invariant.0.home_rows.wide
    c.self.invariant.0.home_rows.long fits.home fits.slot

pub add-requires-clause-room : goal.add-requires-clause-room
add-requires-clause-room c = omega (
  arith,
  kept-home-le c.self.inside.n c.self.inside.games c.self.inside.places.items c.self.inside.spare.items
      c.self.inside.homes c.self.inside.aways c.self.invariant.0 c.args.game.home.0 c.args.game.slot.0,
)

pub add-requires-2-clause-place : goal.add-requires-2-clause-place
add-requires-2-clause-place c =
    let fits : IsGame c.self.inside.n c.args.game = subst (λ (t : Table). IsGame t.n c.args.game)
    (sym c.self.view_is) c.requires.fits in
    place_in_rows c.self.inside.n c.args.game.away.0 c.args.game.slot.0 c.self.inside.aways.columns
    (length c.self.inside.aways.numbers.items) c.self.invariant.0.away_rows.wide
    c.self.invariant.0.away_rows.long fits.away fits.slot

pub add-requires-2-clause-room : goal.add-requires-2-clause-room
add-requires-2-clause-room c = omega (
  arith,
  kept-away-le c.self.inside.n c.self.inside.games c.self.inside.places.items c.self.inside.spare.items
      c.self.inside.homes c.self.inside.aways c.self.invariant.0 c.args.game.away.0 c.args.game.slot.0,
)

pub keep-requires-clause-few : goal.keep-requires-clause-few
keep-requires-clause-few c i j s =
    kept-le c.self.inside.n c.self.inside.games c.self.inside.places.items c.self.inside.spare.items
    c.self.inside.homes
    c.self.inside.aways c.self.invariant.0 i j s

pub add-requires-clause-row : goal.add-requires-clause-row
add-requires-clause-row c =
    let fits : IsGame c.self.inside.n c.args.game = subst (λ (t : Table). IsGame t.n c.args.game)
    (sym c.self.view_is) c.requires.fits in
    omega (arith, fits.home, c.self.invariant.2.rows)

pub add-requires-clause-few : goal.add-requires-clause-few
add-requires-clause-few c = omega (arith, c.self.invariant.0.home_rows.wide, c.self.invariant.0.teams.at_most)

pub add-requires-clause-marked : goal.add-requires-clause-marked
add-requires-clause-marked c = c.self.invariant.2.marked

pub add-requires-2-clause-row : goal.add-requires-2-clause-row
add-requires-2-clause-row c =
    let fits : IsGame c.self.inside.n c.args.game = subst (λ (t : Table). IsGame t.n c.args.game)
    (sym c.self.view_is) c.requires.fits in
    omega (arith, fits.away, c.self.invariant.3.rows)

pub add-requires-2-clause-few : goal.add-requires-2-clause-few
add-requires-2-clause-few c = omega (arith, c.self.invariant.0.away_rows.wide, c.self.invariant.0.teams.at_most)

pub add-requires-2-clause-marked : goal.add-requires-2-clause-marked
add-requires-2-clause-marked c = c.self.invariant.3.marked

pub invariant_of-self : goal.invariant_of-self
invariant_of-self c =
    let game = c.args.game in
    let fits : IsGame c.self.inside.n c.args.game = subst (λ (t : Table). IsGame t.n c.args.game)
    (sym c.self.view_is) c.requires.fits in
    let total = ap (λ (t : Table). sum t.list) c.self.view_is in
    let room : c.self.inside.games < 10000 = omega (arith, c.self.invariant.0.total, total, c.requires.room) in (
      AreKept-more c.self.inside.n c.self.inside.games game c.self.inside.places.items c.keep.new.places.items
          c.self.inside.spare.items c.keep.new.spare.items c.self.inside.homes c.self.inside.aways c.add.new.self
          c.add-2.new.self fits room
          (record { by_home = c.add.ensures.more; by_away = c.add-2.ensures.more }) c.keep.ensures.table c.keep.ensures.counts
          c.self.invariant.0,
      omega (arith, c.keep.ensures.room, c.self.invariant.1),
      record {
        rows = c.add.ensures.rows ∙ c.self.invariant.2.rows;
        marked = c.add.ensures.marked;
      },
      record {
        rows = c.add-2.ensures.rows ∙ c.self.invariant.3.rows;
        marked = c.add-2.ensures.marked;
      },
    )

pub returns-clause-counts : goal.returns-clause-counts
returns-clause-counts c =
    let n : ℕ = c.self.inside.n in
    let m : Counts = kept_counts n c.self.inside.places.items c.self.inside.spare.items in
    let more : Counts = kept_counts n c.keep.new.places.items c.keep.new.spare.items in
    kept-counts n c.keep.new.places.items c.keep.new.spare.items c.keep.ensures.table
    ∙ same_counts more (one_more m c.args.game) c.keep.ensures.counts
    ∙ ap (λ (k : Counts). one_more k c.args.game)
    (sym (seen n c.self.inside.places.items c.self.inside.spare.items c.args.self.now c.self.invariant.0.table
    c.self.view_is))

pub returns-clause-total : goal.returns-clause-total
returns-clause-total c =
    let n : ℕ = c.self.inside.n in
    let fits : IsGame c.self.inside.n c.args.game = subst (λ (t : Table). IsGame t.n c.args.game)
    (sym c.self.view_is) c.requires.fits in
    omega (
      arith,
      sum_more n (kept_counts n c.self.inside.places.items c.self.inside.spare.items)
          (kept_counts n c.keep.new.places.items c.keep.new.spare.items) c.args.game fits c.keep.ensures.counts,
      ap (λ (t : Table). sum t.list) c.self.view_is,
    )
