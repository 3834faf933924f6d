use Rattle.std.proofs.Common.{◌≡◌, length}
use Rattle.propagate.proofs.lists.count_terms.Given as goal

abbrev pub invariant-loop-term : goal.invariant-loop-term
invariant-loop-term l = length l.counts ≡ length l.fn.counts
