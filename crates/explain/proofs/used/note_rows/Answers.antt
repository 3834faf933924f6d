use Rattle.explain.proofs.UsedLemmas.{noted-next_part, noted-none}
use Rattle.explain.proofs.used.note_rows.Goals as goal

pub loop-part-init : goal.loop-part-init
loop-part-init c = noted-none c.args.limit c.args.flags.now

pub loop-part-preserved : goal.loop-part-preserved
loop-part-preserved c =
    noted-next_part c.args.limit c.args.parts.now c.loop-part.part-index _ c.args.flags.now c.loop-part.flags
    c.note.new.flags c.loop-part-test.true c.loop-part.invariant c.note.ensures
