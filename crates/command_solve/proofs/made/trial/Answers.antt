use Rattle.command_solve.proofs.TrialLemmas.{accepts-own, replied-tried}
use Rattle.command_solve.proofs.made.trial.Goals as goal

pub solve_made-requires : goal.solve_made-requires
solve_made-requires g c = record {
  circle = accepts-own c.args.n c.args.seed c.in_ok-league.league c.in_ok-league.ensures.league
      c.in_ok-league.ensures.accepts;
}

pub returns : goal.returns
returns g c =
    replied-tried c.args.n c.args.seed c.args.budgets (g.W.Watch.may_stop c.args.watch.now) c.in_ok-league.league c.solve_made.result
    c.in_ok-league.ensures.league c.solve_made.ensures
