use Rattle.std.proofs.Common.{refl}
use Rattle.robinx.proofs.write_instance.mode_word.Goals as goal

pub returns-then-phased : goal.returns-then-phased
returns-then-phased c = rw c.if-phased.true refl

pub returns-else-phased : goal.returns-else-phased
returns-else-phased c = rw c.if-phased.false refl
