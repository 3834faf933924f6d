use Rattle.command_solve.proofs.PatternTexts.{letters-more}
use Rattle.command_solve.proofs.pattern_lines.put_letters.Goals as goal

pub loop-slot-preserved : goal.loop-slot-preserved
loop-slot-preserved c =
    letters-more c.args.pattern.now c.loop-slot.slot c.side.result c.args.text.now.items c.loop-slot.text.items
    c.put_letter.new.text.items c.side.ensures c.in_ok-put_letter.ensures c.loop-slot.invariant
