use Rattle.std.proofs.Common.{◌<◌, ◌≤◌, length, arith, ap}
use Rattle.circle_method.specs.Circle.{single_games}
use Rattle.circle_method.proofs.BreakLemmas.{breaks_of}
use Rattle.circle_method.proofs.GameLemmas.{double_games-all, double_games-more, early_read}
use Rattle.circle_method.proofs.RoundRobinLemmas.{count_of_games, fit_of, round_robin_of}
use Rattle.circle_method.proofs.circle.double.Goals as goal

pub returned-requires-clause-in_half : goal.returned-requires-clause-in_half
returned-requires-clause-in_half c =
    let within : c.loop-k.k < length (single_games c.args.n) = omega (arith, ap length c.in_ok-schedule.ensures.games) in
    early_read c.args.n c.loop-k.k c.loop-k.schedule _ c.get-game.result c.requires.teams c.loop-k.invariant within c.get-game.ensures

pub loop-k-preserved : goal.loop-k-preserved
loop-k-preserved c =
    let within : c.loop-k.k < length (single_games c.args.n) = omega (arith, ap length c.in_ok-schedule.ensures.games) in
    double_games-more c.args.n c.loop-k.k c.loop-k.schedule _ c.get-game.result c.returned.result c.loop-k.invariant within c.get-game.ensures c.returned.ensures c.in_ok-push.ensures.ok

pub returns-clause-round_robin : goal.returns-clause-round_robin
returns-clause-round_robin c =
    let all : length (single_games c.args.n) ≤ c.loop-k.k = omega (arith, ap length c.in_ok-schedule.ensures.games) in
    round_robin_of c.args.n c.loop-k.schedule c.requires.teams (double_games-all c.args.n c.loop-k.k c.loop-k.schedule all c.loop-k.invariant)

pub returns-clause-fit : goal.returns-clause-fit
returns-clause-fit c =
    let all : length (single_games c.args.n) ≤ c.loop-k.k = omega (arith, ap length c.in_ok-schedule.ensures.games) in
    fit_of c.args.n c.loop-k.schedule c.requires.teams (double_games-all c.args.n c.loop-k.k c.loop-k.schedule all c.loop-k.invariant)

pub returns-clause-count : goal.returns-clause-count
returns-clause-count c =
    let all : length (single_games c.args.n) ≤ c.loop-k.k = omega (arith, ap length c.in_ok-schedule.ensures.games) in
    count_of_games c.args.n c.loop-k.schedule c.requires.teams (double_games-all c.args.n c.loop-k.k c.loop-k.schedule all c.loop-k.invariant)

pub returns-clause-breaks : goal.returns-clause-breaks
returns-clause-breaks c =
    let all : length (single_games c.args.n) ≤ c.loop-k.k = omega (arith, ap length c.in_ok-schedule.ensures.games) in
    breaks_of c.args.n c.loop-k.schedule c.requires.teams (double_games-all c.args.n c.loop-k.k c.loop-k.schedule all c.loop-k.invariant)
