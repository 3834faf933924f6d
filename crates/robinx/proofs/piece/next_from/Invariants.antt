use Rattle.std.proofs.Common.{◌≡◌, ◌+◌, ◌<◌, ◌^◌, length}
use Rattle.robinx.specs.Pieces.{pieces_from}
use Rattle.robinx.proofs.piece.next_from.Given as goal

abbrev pub invariant-loop-alloc : goal.invariant-loop-alloc
invariant-loop-alloc l = record { left : pieces_from l.line 0 l.rest ≡ pieces_from l.fn.line 0 l.fn.bytes; fits : l.line + length l.rest < 2 ^ 32 }

abbrev pub decreases-loop-alloc : goal.decreases-loop-alloc
decreases-loop-alloc l = length l.rest
