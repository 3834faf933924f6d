use Rattle.solve.proofs.KeptLemmas.{tried-seed}
use Rattle.solve.proofs.solver.later_try.Goals as goal

pub returns : goal.returns
returns g c =
    tried-seed c.args.encoding.now c.args.budgets (g.W.Watch.may_stop c.args.watch.now) _ c.try_both.result
    c.try_both.ensures
