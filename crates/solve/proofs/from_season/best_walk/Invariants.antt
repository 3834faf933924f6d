use Rattle.std.specs.Prelude.{ℕ}
use Rattle.solve.specs.Solutions.{CostsAtMost, HasSchedule, IsSolutionBy}
use Rattle.solve.proofs.from_season.best_walk.Given as goal

-- the best answer so far
abbrev pub invariant-loop-k : goal.invariant-loop-k
invariant-loop-k g l = record {
  solution : IsSolutionBy l.league l.budgets (g.W.Watch.may_stop l.watch) l.best;
  at_most : (most : ℕ) → CostsAtMost most l.fn.first → CostsAtMost most l.best;
  schedule : HasSchedule l.fn.first → HasSchedule l.best;
}
