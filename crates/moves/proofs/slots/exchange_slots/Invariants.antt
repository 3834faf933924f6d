use Rattle.std.proofs.Common.{◌≡◌, false, get_or}
use Rattle.moves.specs.Parts.{AreExchangedBelow}
use Rattle.moves.specs.Round.{round_counts}
use Rattle.moves.proofs.slots.exchange_slots.Given as goal

-- the games of the teams so far are exchanged
abbrev pub invariant-loop-team : goal.invariant-loop-team
invariant-loop-team l =
    AreExchangedBelow l.team (λ a. get_or l.marks a false) (round_counts l.board) l.s.0 l.t.0 l.edit × (l.edit.n ≡ l.board.n)
