use Rattle.command_check.proofs.lines.push_front.Goals as goal

pub returns : goal.returns
returns c = rw (← c.name.ensures, ← c.text-class.ensures, ← c.type_word-kind.ensures) c.in_ok-write.ensures.bytes
