use Rattle.std.proofs.Common.{◌≡◌, false, take}
use Rattle.std.specs.List.{list_any}
use Rattle.refutation.specs.Steps.{is_linear}
use Rattle.refutation.proofs.text.version_of.Given as goal

-- no step so far is linear
abbrev pub invariant-loop-k : goal.invariant-loop-k
invariant-loop-k l = list_any is_linear (take l.k l.log) ≡ false
