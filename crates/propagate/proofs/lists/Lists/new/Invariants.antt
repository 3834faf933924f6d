use Rattle.std.proofs.Common.{◌≡◌, [], replicate}
use Rattle.propagate.proofs.lists.Lists.new.Given as goal

abbrev pub invariant-loop-at : goal.invariant-loop-at
invariant-loop-at l = l.lists.items ≡ replicate l.at []
