use Rattle.std.proofs.Common.{◌≡◌, ◌-◌, length}
use Rattle.moves.specs.Round.{round_counts}
use Rattle.moves.specs.Walks.{IsTeamWalk, marked_count}
use Rattle.moves.proofs.walks.linked_teams.Given as goal

abbrev pub invariant-walk : goal.invariant-walk
invariant-walk l = IsTeamWalk l.board.n (round_counts l.board) l.fn.team.0 l.s.0 l.t.0 l.marks l.next.0 × (length l.marks ≡ 40)

abbrev pub decreases-walk : goal.decreases-walk
decreases-walk l = 40 - marked_count l.marks
