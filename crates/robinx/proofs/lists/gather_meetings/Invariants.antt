use Rattle.std.proofs.Common.{◌≡◌, [], length}
use Rattle.league.specs.Sets.{pair_cmp}
use Rattle.robinx.specs.Values.{meeting, each, items_of}
use Rattle.robinx.specs.Gathered.{gathered}
use Rattle.robinx.proofs.lists.gather_meetings.Given as goal

abbrev pub invariant-items : goal.invariant-items
invariant-items l = gathered pair_cmp l.meetings (each (meeting l.n) (items_of l.rest)) ≡ gathered pair_cmp [] (each (meeting l.n) (items_of l.text))

abbrev pub decreases-items : goal.decreases-items
decreases-items l = length l.rest
