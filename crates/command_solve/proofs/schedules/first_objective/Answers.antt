use Rattle.std.proofs.Common.{List, ap, ◌∙◌}
use Rattle.league.specs.Accepted as costs
use Rattle.league.specs.Counts.{counts_of}
use Rattle.league.specs.declared.game.Game.{Game}
use Rattle.command_solve.proofs.schedules.first_objective.Goals as goal

pub returns : goal.returns
returns c =
    c.in_ok-assessment.ensures.objective
    ∙ ap (λ (games : List Game). costs.objective c.args.league.now (counts_of games)) c.first.ensures
