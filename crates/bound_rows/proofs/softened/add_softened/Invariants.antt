use Rattle.std.proofs.Common.{◌≡◌, ◌+◌, ◌++◌, length, map, take}
use Rattle.bound_rows.specs.Softening.{soften, units_from}
use Rattle.bound_rows.proofs.softened.add_softened.Given as goal

abbrev pub invariant-loop-k : goal.invariant-loop-k
invariant-loop-k l = record {
  so_far : l.rows ≡ l.fn.rows ++ map (soften (units_from l.first l.count)) (take l.k l.group);
  few : length l.rows ≡ length l.fn.rows + l.k;
}
