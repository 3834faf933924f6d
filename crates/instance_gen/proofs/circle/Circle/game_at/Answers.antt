use Rattle.std.proofs.Common.{ap, arith, length}
use Rattle.circle_method.proofs.RoundRobinLemmas.{length-double_games}
use Rattle.instance_gen.proofs.MadeLemmas.{game_read}
use Rattle.instance_gen.proofs.circle.Circle.game_at.Goals as goal

pub get-requires : goal.get-requires
get-requires c =
    omega (arith, ap length c.args.self.now.games, length-double_games c.args.self.now.n c.args.self.now.teams)

pub returns : goal.returns
returns c =
    game_read c.args.self.now.n c.args.place c.args.self.now.schedule c.get.result c.args.self.now.games c.get.ensures
