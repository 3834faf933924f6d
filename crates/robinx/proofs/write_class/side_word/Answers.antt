use Rattle.std.proofs.Common.{refl}
use Rattle.robinx.proofs.write_class.side_word.Goals as goal

pub returns-in-H : goal.returns-in-H
returns-in-H c = rw c.in-H.is refl

pub returns-in-A : goal.returns-in-A
returns-in-A c = rw c.in-A.is refl

pub returns-in-Both : goal.returns-in-Both
returns-in-Both c = rw c.in-Both.is refl
