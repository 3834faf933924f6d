use Rattle.std.proofs.Common.{arith}
use Rattle.std.proofs.lemmas.Nat.Gcd.{IsGcd-from_mod, IsGcd-from_zero}
use Rattle.planes.proofs.numbers.common.Goals as goal

pub steps-preserved : goal.steps-preserved
steps-preserved c = λ g divides. c.steps.invariant g (IsGcd-from_mod c.steps.larger c.steps.smaller g divides)

pub returns : goal.returns
returns c = c.steps.invariant c.steps.larger (IsGcd-from_zero c.steps.larger c.steps.smaller (omega arith))
