use Rattle.std.proofs.Common.{ℕ}
use Rattle.std.specs.Int.{IsGcd}
use Rattle.planes.proofs.numbers.common.Given as goal

abbrev pub invariant-steps : goal.invariant-steps
invariant-steps l = (g : ℕ) → IsGcd l.larger l.smaller g → IsGcd l.fn.one l.fn.other g

abbrev pub decreases-steps : goal.decreases-steps
decreases-steps l = l.smaller
