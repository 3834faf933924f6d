use Rattle.std.proofs.Common.{◌≡◌, ◌*◌, ◌≤◌, take}
use Rattle.venue_counts.specs.Keys.{mask_of}
use Rattle.venue_counts.proofs.groups.key_of.Given as goal

abbrev pub invariant-loop-slot : goal.invariant-loop-slot
invariant-loop-slot l =
    (l.mask ≡ mask_of (take l.slot-index l.slots)) × (l.mask ≤ l.slot-index * 151115727451828646838272)
