use Rattle.std.proofs.Common.{◌≡◌, ℕ, ◌+◌, ◌*◌, ◌≤◌, length, take, vec_len}
use Rattle.std.specs.Vec.{vec_capacity}
use Rattle.std.specs.List.{All}
use Rattle.rows.specs.Literals.{Literal}
use Rattle.rows.specs.Sums.{count_in}
use Rattle.rows.specs.Tables.{AreTouched, AreUpTo, count_at}
use Rattle.rows.proofs.sum.add_wide_counts.Given as goal

abbrev pub invariant-loop-term : goal.invariant-loop-term
invariant-loop-term l = record {
  counts : (m : Literal) → count_at l.counts m ≡ count_at l.fn.counts m + l.factor * count_in (take l.term-index l.terms) m;
  kept : length l.counts ≡ length l.fn.counts;
  touched : AreTouched (count_at l.counts) l.touched.items;
  up_to : (top : ℕ) → AreUpTo top l.fn.touched.items → All (λ t. t.lit.var ≤ top) l.terms → AreUpTo top l.touched.items;
  room : vec_len l.touched + length l.terms ≤ vec_capacity l.touched + l.term-index;
}
