use Rattle.solve.proofs.solver.best_try.Goals as goal

pub returns-clause-solution : goal.returns-clause-solution
returns-clause-solution g c = rw c.in_ok-encoding.ensures at c.best_from.ensures.solution

pub returns-clause-best : goal.returns-clause-best
returns-clause-best g c = rw c.in_ok-encoding.ensures at c.best_from.ensures.best
