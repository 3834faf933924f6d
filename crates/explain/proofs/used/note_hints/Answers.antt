use Rattle.explain.proofs.UsedLemmas.{noted-next, noted-none}
use Rattle.explain.proofs.used.note_hints.Goals as goal

pub loop-hint-init : goal.loop-hint-init
loop-hint-init c = noted-none c.args.limit c.args.flags.now

pub loop-hint-preserved : goal.loop-hint-preserved
loop-hint-preserved c =
    noted-next c.args.limit c.args.hints.now c.loop-hint.hint-index c.args.flags.now c.loop-hint.flags c.note.new.flags
    c.loop-hint-test.true c.loop-hint.invariant c.note.ensures
