use Rattle.std.proofs.Common.{◌≡◌, length}
use Rattle.propagate.proofs.lists.counts_of.Given as goal

abbrev pub invariant-loop-k : goal.invariant-loop-k
invariant-loop-k l = length l.counts.items ≡ l.slots
