use Rattle.std.proofs.Common.{◌≡◌, false, get_or}
use Rattle.moves.specs.Parts.{AreTradedBelow}
use Rattle.moves.specs.Round.{round_counts}
use Rattle.moves.proofs.teams.exchange_teams.Given as goal

-- the games of the slots so far are traded
abbrev pub invariant-loop-slot : goal.invariant-loop-slot
invariant-loop-slot l =
    AreTradedBelow l.slot (λ r. get_or l.marks r false) (round_counts l.board) l.i.0 l.j.0 l.edit × (l.edit.n ≡ l.board.n)
