use Rattle.instance_gen.proofs.SetLemmas.{set_of-next}
use Rattle.instance_gen.proofs.sets.slot_set.Goals as goal

pub loop-slot-preserved : goal.loop-slot-preserved
loop-slot-preserved c =
    set_of-next c.args.slots.now c.loop-slot.slot-index c.loop-slot.set _ c.loop-slot-test.true c.loop-slot.invariant
    c.in_ok-insert.ensures.ok
