use Rattle.std.proofs.Common.{◌≡◌, ◌*◌, ◌≤◌, drop, max, take}
use Rattle.rows.specs.Sums.{top_of, weight_of}
use Rattle.rows.proofs.sum.measure.Given as goal

abbrev pub invariant-loop-term : goal.invariant-loop-term
invariant-loop-term l = record {
  so_far : l.total ≡ weight_of (take l.term-index l.terms);
  most : l.total ≤ 4294967295 * l.term-index;
  top : max l.top (top_of (drop l.term-index l.terms)) ≡ top_of l.terms;
  few : l.top ≤ 2147483647;
}
