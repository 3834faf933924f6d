use Rattle.std.proofs.Common.{◌≡◌, ◌+◌, ◌≤◌, ◌++◌, length, map}
use Rattle.std.specs.List.{range_with_len}
use Rattle.bound_rows.specs.Softening.{one_before}
use Rattle.bound_rows.proofs.order.push_order.Given as goal

abbrev pub invariant-loop-k : goal.invariant-loop-k
invariant-loop-k l = record {
  so_far : l.rows ≡ l.fn.rows ++ map one_before (range_with_len l.first l.k);
  few : length l.rows ≤ length l.fn.rows + l.k;
}
