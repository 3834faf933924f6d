use Rattle.std.proofs.Common.{◌≡◌, length}
use Rattle.robinx.specs.Walk as walk
use Rattle.robinx.specs.SeenPosition.{position_of}
use Rattle.robinx.proofs.walk.read_pieces.Given as goal

abbrev pub invariant-pieces : goal.invariant-pieces
invariant-pieces g l =
    walk.walk g.R.Reads.meaning l.tags.items l.tags.last (position_of l.position l.read)
    ≡ walk.walk g.R.Reads.meaning l.fn.tags.items l.fn.tags.last (position_of l.fn.position l.fn.read)

abbrev pub decreases-pieces : goal.decreases-pieces
decreases-pieces g l = length l.tags.items
