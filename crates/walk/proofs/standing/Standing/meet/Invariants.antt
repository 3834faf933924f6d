use Rattle.std.specs.Prelude.{◌≤◌}
use Rattle.moves.specs.Round.{round_counts}
use Rattle.walk.specs.Standing.{IsStandingOn}
use Rattle.walk.proofs.standing.Standing.meet.Given as goal

-- the walk stands on the games of its board
abbrev pub invariant-draws : goal.invariant-draws
invariant-draws g l = record {
  standing : IsStandingOn l.initial.self.board.n l.initial.self.board.phased (round_counts l.self.board) l.self;
  within : l.tried ≤ l.limit;
  most : l.limit ≤ l.stage.limit;
}
