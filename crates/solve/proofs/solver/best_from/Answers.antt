use Rattle.std.proofs.Common.{rules}
use Rattle.solve.proofs.EarliestLemmas.{best-by}
use Rattle.solve.proofs.solver.best_from.Goals as goal

pub returns-clause-solution : goal.returns-clause-solution
returns-clause-solution g c =
    c.best_of.ensures.solution c.args.encoding.now c.requires.first (λ k tried below made. search rules)

pub returns-clause-best : goal.returns-clause-best
returns-clause-best g c =
    best-by c.args.encoding.now c.args.budgets (g.W.Watch.may_stop c.args.watch.now) c.args.first _ _
    c.requires.first (λ k tried made. search rules) c.best_of.ensures.best
