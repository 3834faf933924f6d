use Rattle.robinx.proofs.WrittenTexts.{three_pieces}
use Rattle.command_check.proofs.lines.push_constraint.Goals as goal

pub returns : goal.returns
returns c = rw (← c.requires) (three_pieces _ _ _ _ _ _ _ c.in_ok-push_front.ensures c.in_ok-push_entries.ensures c.in_ok-push_str.ensures.bytes)
