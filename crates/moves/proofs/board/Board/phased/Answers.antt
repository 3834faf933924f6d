use Rattle.std.proofs.Common.{subst}
use Rattle.moves.specs.Places.{IsRound}
use Rattle.moves.proofs.board.Board.phased.Goals as goal

pub returns-clause-round_robin : goal.returns-clause-round_robin
returns-clause-round_robin c = let round : IsRound c.args.self.now = subst IsRound c.self.view_is c.self.invariant.0 in round.round_robin
