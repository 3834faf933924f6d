use Rattle.solve.proofs.EarliestLemmas.{one_try}
use Rattle.solve.proofs.KeptLemmas.{solved-season}
use Rattle.solve.proofs.solver.best_with_circle.Goals as goal

pub returns-then-budgets-le1-clause-best : goal.returns-then-budgets-le1-clause-best
returns-then-budgets-le1-clause-best g c =
    one_try c.args.league.now c.args.budgets (g.W.Watch.may_stop c.args.watch.now) c.schedule_found.result
    (solved-season c.args.league.now c.args.budgets (g.W.Watch.may_stop c.args.watch.now) c.args.season
    c.schedule_found.result c.requires.season
    c.schedule_found.ensures.found)
    c.if-budgets-le1.true

pub returns-then-budgets-le1-clause-solution : goal.returns-then-budgets-le1-clause-solution
returns-then-budgets-le1-clause-solution g c =
    solved-season c.args.league.now c.args.budgets (g.W.Watch.may_stop c.args.watch.now) c.args.season
    c.schedule_found.result c.requires.season
    c.schedule_found.ensures.found

pub best_from-requires : goal.best_from-requires
best_from-requires g c = record {
  first = rw c.in_ok-encoding.ensures
      (solved-season c.args.league.now c.args.budgets (g.W.Watch.may_stop c.args.watch.now) c.args.season
      c.schedule_found-2.result c.requires.season
      c.schedule_found-2.ensures.found);
}

pub returns-clause-solution : goal.returns-clause-solution
returns-clause-solution g c = rw c.in_ok-encoding.ensures at c.best_from.ensures.solution

pub returns-clause-best : goal.returns-clause-best
returns-clause-best g c = rw c.in_ok-encoding.ensures at c.best_from.ensures.best
