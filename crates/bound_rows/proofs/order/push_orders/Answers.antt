use Rattle.std.proofs.Common.{arith, refl}
use Rattle.std.proofs.lemmas.List.Sums.{sum_by_more}
use Rattle.bound_rows.specs.declared.units.Units.{Units}
use Rattle.bound_rows.proofs.GroupLemmas.{no_units, order-next, place-more}
use Rattle.bound_rows.proofs.order.push_orders.Goals as goal

pub loop-group-preserved : goal.loop-group-preserved
loop-group-preserved c =
    let groups = c.args.groups.now in
    let i = c.loop-group.group-index in
    record {
      so_far = order-next groups i no_units c.loop-group-test.true c.args.first c.loop-group.next c.args.rows.now
          c.loop-group.rows _ c.loop-group.invariant.so_far c.loop-group.invariant.place
          c.in_ok-push_order.ensures.rows;
      place = place-more groups i no_units c.loop-group-test.true c.args.first c.loop-group.next _
          c.loop-group.invariant.place refl;
      few = omega (
        arith,
        c.in_ok-push_order.ensures.few,
        c.loop-group.invariant.few,
        sum_by_more (λ (u : Units). u.units) groups i no_units c.loop-group-test.true,
      );
    }
