use Rattle.std.proofs.Common.{List, ap, arith, refl, ◌∙◌}
use Rattle.std.proofs.lemmas.List.{take_all}
use Rattle.bound_rows.specs.Bare.{bare_groups}
use Rattle.bound_rows.specs.Softening as softening
use Rattle.bound_rows.specs.declared.units.Units.{Units}
use Rattle.bound_rows.proofs.GroupLemmas.{costs-next, no_units, place-le, place-more}
use Rattle.bound_rows.proofs.objective.costs.Goals as goal

pub loop-group-preserved : goal.loop-group-preserved
loop-group-preserved c =
    let groups = c.args.groups.now in
    let i = c.loop-group.group-index in
    record {
      so_far = costs-next groups i no_units c.loop-group-test.true c.args.first c.loop-group.next
          c.loop-group.terms.items _ c.loop-group.invariant.so_far c.loop-group.invariant.place c.in_ok-add_costs.ensures;
      place = place-more groups i no_units c.loop-group-test.true c.args.first c.loop-group.next _
          c.loop-group.invariant.place refl;
    }

pub add_costs-requires : goal.add_costs-requires
add_costs-requires c =
    let end = place-le c.args.groups.now c.loop-group.group-index no_units c.loop-group-test.true c.args.first
    c.loop-group.next c.loop-group.invariant.place in
    record {
      first = omega (arith, c.requires.first, c.loop-group.invariant.place);
      last = omega (arith, c.requires.last, end);
    }

pub overflow_add-next : goal.overflow_add-next
overflow_add-next c =
    omega (
      arith,
      c.requires.last,
      place-le c.args.groups.now c.loop-group.group-index no_units c.loop-group-test.true c.args.first
          c.loop-group.next c.loop-group.invariant.place,
    )

pub returns : goal.returns
returns c =
    c.loop-group.invariant.so_far
    ∙ ap (λ (groups : List Units). softening.costs c.args.first (bare_groups groups))
    (take_all c.loop-group.group-index c.args.groups.now (omega arith))
