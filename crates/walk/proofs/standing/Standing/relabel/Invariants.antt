use Rattle.moves.specs.Round.{round_counts}
use Rattle.walk.specs.Standing.{IsStandingOn}
use Rattle.walk.proofs.standing.Standing.relabel.Given as goal

-- the walk stands on some games of the same league
abbrev pub invariant-loop-later : goal.invariant-loop-later
invariant-loop-later l =
    IsStandingOn l.initial.self.board.n l.initial.self.board.phased (round_counts l.self.board) l.self
