use Rattle.std.proofs.Common.{◌≡◌, take}
use Rattle.bound_rows.proofs.sets.slot_set.Given as goal

abbrev pub invariant-loop-slot : goal.invariant-loop-slot
invariant-loop-slot l = l.set ≡ take l.slot-index l.slots
