use Rattle.std.proofs.Common.{arith}
use Rattle.deviation.proofs.gaps.games_at.Goals as goal

pub returns-in-Some-clause-games : goal.returns-in-Some-clause-games
returns-in-Some-clause-games c = omega
    (arith, c.games_in.ensures.games, c.in-Some.ensures.home c.args.second.0, c.in-Some.ensures.away c.args.second.0)
