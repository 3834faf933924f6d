use Rattle.std.proofs.Common.{length, arith, ap, ◌∙◌}
use Rattle.league.specs.Counts.{slot_count}
use Rattle.league.proofs.RangeLemmas.{one_if}
use Rattle.rule_core.specs.Table.{Table}
use Rattle.rule_core.proofs.SeenLemmas.{count_all, count_le}
use Rattle.rule_core.proofs.TableLemmas.{kept-le, place_in_rows}
use Rattle.rule_core.proofs.cells.Cells.at.Goals as goal

pub read_place-place-requires-clause-place : goal.read_place-place-requires-clause-place
read_place-place-requires-clause-place c =
    let teams = ap (λ (t : Table). t.n) c.self.view_is in
    let slots = ap (λ (t : Table). slot_count t.n) c.self.view_is in
    place_in_rows c.self.inside.n c.args.home.0 c.args.slot.0 c.slot_count.result
    (length c.self.inside.places.items) c.slot_count.ensures c.self.invariant.0.table.size
    (omega (arith, teams, c.requires.home)) (omega (arith, slots, c.requires.slot))

pub copies-requires-clause-few : goal.copies-requires-clause-few
copies-requires-clause-few c =
    omega (
      arith,
      kept-le c.self.inside.n c.self.inside.games c.self.inside.places.items c.self.inside.spare.items
          c.self.inside.homes
          c.self.inside.aways c.self.invariant.0 c.args.home.0 c.args.away.0 c.args.slot.0,
    )

pub returns-clause-count : goal.returns-clause-count
returns-clause-count c =
    count_all c.self.inside.n c.self.inside.games c.self.inside.places.items c.self.inside.spare.items
    c.self.inside.homes c.self.inside.aways c.self.invariant.0 c.args.self.now c.self.view_is c.args.home.0
    c.args.slot.0 c.slot_count.result c.read_place-place.result c.slot_count.ensures c.read_place-place.ensures
    c.args.away.0 c.once_if-placed.result c.copies.result
    (c.once_if-placed.ensures.once ∙ ap one_if c.is_home_to.ensures) c.copies.ensures.count

pub returns-clause-at_most : goal.returns-clause-at_most
returns-clause-at_most c =
    let hosted = c.once_if-placed.ensures.once ∙ ap one_if c.is_home_to.ensures in
    omega (
      arith,
      count_all c.self.inside.n c.self.inside.games c.self.inside.places.items c.self.inside.spare.items
          c.self.inside.homes c.self.inside.aways c.self.invariant.0 c.args.self.now c.self.view_is c.args.home.0
          c.args.slot.0 c.slot_count.result c.read_place-place.result c.slot_count.ensures
          c.read_place-place.ensures c.args.away.0 c.once_if-placed.result c.copies.result hosted
          c.copies.ensures.count,
      count_le c.self.inside.n c.self.inside.games c.self.inside.places.items c.self.inside.spare.items
          c.self.inside.homes c.self.inside.aways c.self.invariant.0 c.args.self.now c.self.view_is c.args.home.0
          c.args.slot.0 c.slot_count.result c.read_place-place.result c.slot_count.ensures
          c.read_place-place.ensures c.args.away.0,
    )
