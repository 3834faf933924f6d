use Rattle.std.proofs.Common.{arith, ◌<◌}
use Rattle.venue_counts.proofs.StepLemmas.{bit-le, mask-more}
use Rattle.venue_counts.proofs.groups.key_of.Goals as goal

pub overflow_add-mask : goal.overflow_add-mask
overflow_add-mask c =
    let below : c.from.result < 78 =
    omega (arith, c.from.ensures, c.requires.below c.loop-slot.slot-index 0 c.loop-slot-test.true) in
    omega (arith, c.loop-slot.invariant.1, bit-le c.from.result below, c.requires.few)

pub loop-slot-preserved : goal.loop-slot-preserved
loop-slot-preserved c =
    let below : c.from.result < 78 =
    omega (arith, c.from.ensures, c.requires.below c.loop-slot.slot-index 0 c.loop-slot-test.true) in (
      mask-more c.args.slots.now c.loop-slot.slot-index c.loop-slot.mask c.from.result below c.loop-slot-test.true
          c.from.ensures c.loop-slot.invariant.0,
      omega (arith, c.loop-slot.invariant.1, bit-le c.from.result below),
    )
