use Rattle.std.proofs.Common.{List, subst}
use Rattle.std.specs.List.Sorted.{IsPermutation}
use Rattle.circle_method.specs.Circle.{double_games}
use Rattle.league.specs.declared.game.Game.{Game}
use Rattle.command_solve.proofs.OrderLemmas.{in_order_unique}
use Rattle.command_solve.proofs.season.season.Goals as goal

pub returns : goal.returns
returns c =
    let from_double : IsPermutation (double_games c.args.n) c.put_in_order.new.self = subst (λ (games : List Game). IsPermutation games c.put_in_order.new.self) c.in_ok-schedule.ensures.games c.put_in_order.ensures.permutation in
    in_order_unique (double_games c.args.n) c.put_in_order.new.self from_double c.put_in_order.ensures.in_order
