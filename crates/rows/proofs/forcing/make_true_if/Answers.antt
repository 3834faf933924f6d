use Rattle.std.proofs.Common.{refl}
use Rattle.rows.proofs.forcing.make_true_if.Goals as goal

pub returns-else-test-clause-values : goal.returns-else-test-clause-values
returns-else-test-clause-values c = rw c.if-test.false refl
