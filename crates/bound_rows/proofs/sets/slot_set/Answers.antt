use Rattle.bound_rows.proofs.SetLemmas.{set-next}
use Rattle.bound_rows.proofs.sets.slot_set.Goals as goal

pub loop-slot-preserved : goal.loop-slot-preserved
loop-slot-preserved c =
    set-next c.args.slots.now c.loop-slot.slot-index c.loop-slot.set _ c.requires c.loop-slot-test.true
    c.loop-slot.invariant c.in_ok-insert.ensures.ok
