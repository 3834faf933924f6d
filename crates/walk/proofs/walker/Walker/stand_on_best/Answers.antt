use Rattle.std.proofs.Common.{List, subst, sym}
use Rattle.std.specs.List.{All}
use Rattle.league.specs.Counts.{counts_of}
use Rattle.league.specs.Instance.{IsGame}
use Rattle.league.specs.Structure.{IsRoundRobin}
use Rattle.league.specs.declared.game.Game.{Game}
use Rattle.walk.proofs.walker.Walker.stand_on_best.Goals as goal

pub stand_at-requires-clause-fit : goal.stand_at-requires-clause-fit
stand_at-requires-clause-fit c =
    subst (λ (games : List Game). All (IsGame c.args.league.now.n) games) (sym c.in_ok-schedule.ensures)
    c.requires.walker.best.fit

pub stand_at-requires-clause-round_robin : goal.stand_at-requires-clause-round_robin
stand_at-requires-clause-round_robin c =
    subst (λ (games : List Game). IsRoundRobin c.args.league.now.n c.args.league.now.phased (counts_of games))
    (sym c.in_ok-schedule.ensures) c.requires.walker.best.round_robin
