use Rattle.std.proofs.Common.{refl}
use Rattle.league.proofs.class.ClassName.text.Goals as goal

pub returns-in-Ca1 : goal.returns-in-Ca1
returns-in-Ca1 c = rw c.in-Ca1.is refl

pub returns-in-Ca2 : goal.returns-in-Ca2
returns-in-Ca2 c = rw c.in-Ca2.is refl

pub returns-in-Ca3 : goal.returns-in-Ca3
returns-in-Ca3 c = rw c.in-Ca3.is refl

pub returns-in-Ca4 : goal.returns-in-Ca4
returns-in-Ca4 c = rw c.in-Ca4.is refl

pub returns-in-Ga1 : goal.returns-in-Ga1
returns-in-Ga1 c = rw c.in-Ga1.is refl

pub returns-in-Br1 : goal.returns-in-Br1
returns-in-Br1 c = rw c.in-Br1.is refl

pub returns-in-Br2 : goal.returns-in-Br2
returns-in-Br2 c = rw c.in-Br2.is refl

pub returns-in-Fa2 : goal.returns-in-Fa2
returns-in-Fa2 c = rw c.in-Fa2.is refl

pub returns-in-Se1 : goal.returns-in-Se1
returns-in-Se1 c = rw c.in-Se1.is refl
