use Rattle.std.proofs.Common.{◌≡◌, ◌*◌, ◌≤◌, take}
use Rattle.rows.specs.Rows.{size_of}
use Rattle.encoding.specs.Encoding.{constraint_rows}
use Rattle.encoding.proofs.totals.hard_terms.Given as goal

abbrev pub invariant-loop-constraint : goal.invariant-loop-constraint
invariant-loop-constraint l = record {
  so_far : l.terms ≡ size_of (constraint_rows l.n (take l.constraint-index l.constraints));
  most : l.terms ≤ 40000000 * l.constraint-index;
}
