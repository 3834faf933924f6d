use Rattle.moves.specs.Round.{round_counts}
use Rattle.walk.specs.Standing.{IsStandingOn}
use Rattle.walk.proofs.standing.Standing.turn_meetings.Given as goal

-- the walk stands on some games of the same league
abbrev pub invariant-loop-opponent : goal.invariant-loop-opponent
invariant-loop-opponent l =
    IsStandingOn l.initial.self.board.n l.initial.self.board.phased (round_counts l.self.board) l.self
