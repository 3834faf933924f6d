use Rattle.std.proofs.Common.{◌≡◌, ℕ, ◌++◌, map, take}
use Rattle.rule_core.proofs.pairs.push_pairs.Given as goal

abbrev pub invariant-loop-second : goal.invariant-loop-second
invariant-loop-second l = l.pairs.items ≡ l.initial.pairs.items ++ map (λ (j : ℕ). (l.first, j)) (take l.second-index l.later)
