use Rattle.std.proofs.Common.{◌≡◌, ℕ, List, length, arith, ap, ◌∙◌}
use Rattle.std.proofs.lemmas.Bool.Decides.{nat_tests}
use Rattle.std.specs.List.{sum_by}
use Rattle.league.specs.Counts.{slot_count}
use Rattle.rule_core.specs.Spare.{spare_counts}
use Rattle.rule_core.specs.Table.{Table}
use Rattle.rule_core.proofs.SeenLemmas.{away-le, away_all, away_settled, no_more_away}
use Rattle.rule_core.proofs.SpareLemmas.{no_length}
use Rattle.rule_core.proofs.TableLemmas.{kept-le, place_in_rows}
use Rattle.rule_core.proofs.cells.Cells.away_at.Goals as goal

pub read_place-place-requires-clause-place : goal.read_place-place-requires-clause-place
read_place-place-requires-clause-place c =
    let teams = ap (λ (t : Table). t.n) c.self.view_is in
    let slots = ap (λ (t : Table). slot_count t.n) c.self.view_is in
    place_in_rows c.self.inside.n c.args.team.0 c.args.slot.0 c.slot_count.result
    (length c.self.inside.places.items) c.slot_count.ensures c.self.invariant.0.table.size
    (omega (arith, teams, c.requires.team)) (omega (arith, slots, c.requires.slot))

pub returns-then-is_empty-clause-games : goal.returns-then-is_empty-clause-games
returns-then-is_empty-clause-games c =
    let none : length c.self.inside.spare.items ≡ 0 = grind (arith, nat_tests, c.is_empty.ensures, c.if-is_empty.true) in
    away_settled c.self.inside.n c.self.inside.games c.self.inside.places.items c.self.inside.spare.items
    c.self.inside.homes c.self.inside.aways c.self.invariant.0 c.args.self.now c.self.view_is c.args.team.0
    c.args.slot.0 c.args.others.now c.numbers-numbers.ensures.ascending c.slot_count.result
    c.read_place-place.result c.slot_count.ensures c.read_place-place.ensures c.games_away_at-placed.result
    c.games_away_at-placed.ensures (λ j. no_length c.self.inside.spare.items none j c.args.team.0 c.args.slot.0)

pub returns-then-away-away_games-clause-games : goal.returns-then-away-away_games-clause-games
returns-then-away-away_games-clause-games c =
    let none = no_more_away c.self.inside.n c.self.inside.games c.self.inside.places.items c.self.inside.spare.items
    c.self.inside.homes c.self.inside.aways c.self.invariant.0 c.args.self.now c.self.view_is c.args.team.0
    c.args.slot.0 c.slot_count.result c.read_place-place.result c.slot_count.ensures c.read_place-place.ensures
    c.away.result c.away_games.result c.away.ensures.count c.away_games.ensures c.if-away-away_games.true in
    away_settled c.self.inside.n c.self.inside.games c.self.inside.places.items c.self.inside.spare.items
    c.self.inside.homes c.self.inside.aways c.self.invariant.0 c.args.self.now c.self.view_is c.args.team.0
    c.args.slot.0 c.args.others.now c.numbers-numbers.ensures.ascending c.slot_count.result
    c.read_place-place.result c.slot_count.ensures c.read_place-place.ensures c.games_away_at-placed.result
    c.games_away_at-placed.ensures none

pub copies_away-requires-clause-few : goal.copies_away-requires-clause-few
copies_away-requires-clause-few c j =
    omega (
      arith,
      kept-le c.self.inside.n c.self.inside.games c.self.inside.places.items c.self.inside.spare.items
          c.self.inside.homes
          c.self.inside.aways c.self.invariant.0 j c.args.team.0 c.args.slot.0,
    )

pub returns-clause-games : goal.returns-clause-games
returns-clause-games c =
    away_all c.self.inside.n c.self.inside.games c.self.inside.places.items c.self.inside.spare.items
    c.self.inside.homes c.self.inside.aways c.self.invariant.0 c.args.self.now c.self.view_is c.args.team.0
    c.args.slot.0 c.args.others.now c.numbers-numbers.ensures.ascending c.slot_count.result
    c.read_place-place.result c.slot_count.ensures c.read_place-place.ensures c.games_away_at-placed.result
    c.copies_away.result c.games_away_at-placed.ensures
    (c.copies_away.ensures.games
    ∙ ap (λ (xs : List ℕ). sum_by (λ j. spare_counts c.self.inside.spare.items j c.args.team.0 c.args.slot.0) xs)
    c.numbers-numbers.ensures.numbers)

pub returns-clause-at_most : goal.returns-clause-at_most
returns-clause-at_most c =
    omega (
      arith,
      away_all c.self.inside.n c.self.inside.games c.self.inside.places.items c.self.inside.spare.items
          c.self.inside.homes c.self.inside.aways c.self.invariant.0 c.args.self.now c.self.view_is c.args.team.0
          c.args.slot.0 c.args.others.now c.numbers-numbers.ensures.ascending c.slot_count.result
          c.read_place-place.result c.slot_count.ensures c.read_place-place.ensures c.games_away_at-placed.result
          c.copies_away.result c.games_away_at-placed.ensures
          (c.copies_away.ensures.games
          ∙ ap (λ (xs : List ℕ). sum_by (λ j. spare_counts c.self.inside.spare.items j c.args.team.0 c.args.slot.0)
          xs)
          c.numbers-numbers.ensures.numbers),
      away-le c.self.inside.n c.self.inside.games c.self.inside.places.items
          c.self.inside.spare.items c.self.inside.homes c.self.inside.aways c.self.invariant.0 c.args.self.now
          c.self.view_is c.args.team.0 c.args.slot.0 c.args.others.now c.numbers-numbers.ensures.ascending
          c.numbers-numbers.ensures.few,
    )
