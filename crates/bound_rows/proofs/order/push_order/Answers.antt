use Rattle.std.proofs.Common.{arith}
use Rattle.bound_rows.proofs.GroupLemmas.{length-put, orders-more}
use Rattle.bound_rows.proofs.order.push_order.Goals as goal

pub loop-k-preserved : goal.loop-k-preserved
loop-k-preserved c = record {
  so_far = orders-more c.args.first c.loop-k.k c.args.rows.now c.loop-k.rows _ c.loop-k.invariant.so_far
      c.in_ok-push_one_before.ensures;
  few = omega (arith, length-put c.loop-k.rows _ _ c.in_ok-push_one_before.ensures, c.loop-k.invariant.few);
}
