use Rattle.std.proofs.Common.{◌≡◌, ◌-◌, length}
use Rattle.moves.specs.Round.{round_counts}
use Rattle.moves.specs.Walks.{IsSlotWalk, marked_count}
use Rattle.moves.proofs.walks.linked_slots.Given as goal

abbrev pub invariant-cycle : goal.invariant-cycle
invariant-cycle l = IsSlotWalk l.board.n (round_counts l.board) l.i.0 l.j.0 l.fn.slot.0 l.marks l.next.0 × (length l.marks ≡ 78)

abbrev pub decreases-cycle : goal.decreases-cycle
decreases-cycle l = 78 - marked_count l.marks
