use Rattle.std.proofs.Common.{length, arith, ap}
use Rattle.league.specs.Counts.{slot_count}
use Rattle.rule_core.specs.Table.{Table}
use Rattle.rule_core.proofs.SeenLemmas.{both_le, count_both}
use Rattle.rule_core.proofs.TableLemmas.{kept-le, place_in_rows}
use Rattle.rule_core.proofs.cells.Cells.between.Goals as goal

pub read_place-place-requires-clause-place : goal.read_place-place-requires-clause-place
read_place-place-requires-clause-place c =
    let teams = ap (λ (t : Table). t.n) c.self.view_is in
    let slots = ap (λ (t : Table). slot_count t.n) c.self.view_is in
    place_in_rows c.self.inside.n c.args.first.0 c.args.slot.0 c.slot_count.result
    (length c.self.inside.places.items) c.slot_count.ensures c.self.invariant.0.table.size
    (omega (arith, teams, c.requires.first)) (omega (arith, slots, c.requires.slot))

pub copies-requires-clause-few : goal.copies-requires-clause-few
copies-requires-clause-few c = omega (
  arith,
  kept-le c.self.inside.n c.self.inside.games c.self.inside.places.items c.self.inside.spare.items
      c.self.inside.homes c.self.inside.aways c.self.invariant.0 c.args.first.0 c.args.second.0 c.args.slot.0,
)

pub copies-requires-2-clause-few : goal.copies-requires-2-clause-few
copies-requires-2-clause-few c = omega (
  arith,
  kept-le c.self.inside.n c.self.inside.games c.self.inside.places.items c.self.inside.spare.items
      c.self.inside.homes c.self.inside.aways c.self.invariant.0 c.args.second.0 c.args.first.0 c.args.slot.0,
)

pub returns-clause-games : goal.returns-clause-games
returns-clause-games c =
    count_both c.self.inside.n c.self.inside.games c.self.inside.places.items c.self.inside.spare.items
    c.self.inside.homes c.self.inside.aways c.self.invariant.0 c.args.self.now c.self.view_is c.args.first.0
    c.args.slot.0 c.slot_count.result c.read_place-place.result c.slot_count.ensures c.read_place-place.ensures
    c.args.second.0 c.games_with.result c.copies.result c.copies-2.result c.games_with.ensures.games
    c.copies.ensures.count c.copies-2.ensures.count

pub returns-clause-at_most : goal.returns-clause-at_most
returns-clause-at_most c =
    omega (
      arith,
      returns-clause-games c,
      both_le c.self.inside.n c.self.inside.games c.self.inside.places.items c.self.inside.spare.items
          c.self.inside.homes c.self.inside.aways c.self.invariant.0 c.args.self.now c.self.view_is c.args.first.0
          c.args.slot.0 c.slot_count.result c.read_place-place.result c.slot_count.ensures c.read_place-place.ensures
          c.args.second.0,
    )
