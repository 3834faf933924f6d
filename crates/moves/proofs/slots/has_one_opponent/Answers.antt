use Rattle.moves.specs.Round.{round_counts}
use Rattle.moves.proofs.OpponentLemmas.{same_opponent}
use Rattle.moves.proofs.slots.has_one_opponent.Goals as goal

pub returns : goal.returns
returns c =
    same_opponent c.args.board.now.n (round_counts c.args.board.now) c.args.team.0 c.args.s.0 c.args.t.0 c.opponent.result.0 c.opponent-2.result.0
    c.opponent.ensures.below c.opponent.ensures.meets c.opponent-2.ensures.meets
