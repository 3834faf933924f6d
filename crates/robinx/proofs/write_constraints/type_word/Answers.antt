use Rattle.std.proofs.Common.{refl}
use Rattle.robinx.proofs.write_constraints.type_word.Goals as goal

pub returns-then-hard : goal.returns-then-hard
returns-then-hard c = rw c.if-hard.true refl

pub returns-else-hard : goal.returns-else-hard
returns-else-hard c = rw c.if-hard.false refl
