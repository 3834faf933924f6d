use Rattle.std.proofs.Common.{◌≡◌, ◌+◌, ◌≤◌, ◌++◌, length, map, take, vec_len}
use Rattle.std.specs.Vec.{vec_capacity}
use Rattle.rows.specs.Cardinality.{unit}
use Rattle.rows.proofs.row_store.add_units.Given as goal

abbrev pub invariant-loop-literal : goal.invariant-loop-literal
invariant-loop-literal l = record {
  so_far : l.terms.items ≡ l.fn.terms.items ++ map unit (take l.literal-index l.literals);
  room : vec_len l.terms + length l.literals ≤ vec_capacity l.terms + l.literal-index;
}
