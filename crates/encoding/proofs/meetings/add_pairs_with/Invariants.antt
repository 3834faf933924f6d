use Rattle.std.proofs.Common.{◌≡◌, ◌++◌, map, take}
use Rattle.encoding.proofs.meetings.add_pairs_with.Given as goal

abbrev pub invariant-loop-second : goal.invariant-loop-second
invariant-loop-second l = l.pairs.items ≡ l.fn.pairs.items ++ map (λ j. (l.first, j)) (take l.second-index l.later)
