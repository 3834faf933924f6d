use Rattle.std.proofs.Common.{◌≡◌, false, take}
use Rattle.refutation_check.specs.Room.{has_wide}
use Rattle.refutation_check.proofs.kept.have_32_bits.Given as goal

abbrev pub invariant-loop-term : goal.invariant-loop-term
invariant-loop-term l = has_wide (take l.term-index l.terms) ≡ false
