use Rattle.std.proofs.Common.{◌≡◌, take}
use Rattle.refutation_check.proofs.kept.narrowed.Given as goal

abbrev pub invariant-loop-term : goal.invariant-loop-term
invariant-loop-term l = l.narrow.items ≡ take l.term-index l.terms
