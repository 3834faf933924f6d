use Rattle.std.proofs.Common.{◌≡◌, take}
use Rattle.instance_gen.specs.Draws.{set_of}
use Rattle.instance_gen.proofs.sets.slot_set.Given as goal

abbrev pub invariant-loop-slot : goal.invariant-loop-slot
invariant-loop-slot l = l.set ≡ set_of (take l.slot-index l.slots)
