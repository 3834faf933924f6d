use Rattle.std.proofs.Common.{◌≡◌, take}
use Rattle.refutation_check.proofs.shared.are_same_wide.Given as goal

abbrev pub invariant-loop-k : goal.invariant-loop-k
invariant-loop-k l = take l.k l.wide ≡ take l.k l.others
