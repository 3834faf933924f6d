use Rattle.std.proofs.Common.{◌≡◌, [], length}
use Rattle.std.specs.Ordering.{nat_cmp}
use Rattle.robinx.specs.Values.{slot, each, items_of}
use Rattle.robinx.specs.Gathered.{gathered}
use Rattle.robinx.proofs.lists.gather_slots.Given as goal

abbrev pub invariant-items : goal.invariant-items
invariant-items l = gathered nat_cmp l.slots (each (slot l.n) (items_of l.rest)) ≡ gathered nat_cmp [] (each (slot l.n) (items_of l.text))

abbrev pub decreases-items : goal.decreases-items
decreases-items l = length l.rest
