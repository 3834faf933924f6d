use Rattle.std.specs.Prelude.{◌≡◌, ℕ, ◌+◌, ◌<◌, ◌≤◌, ◌^◌, ◌∷◌, List, get_or, length, map, Ok}
use Rattle.league.specs.Instance.{Instance}
use Rattle.solve.specs.Earliest.{IsBestOf, season_of, season_tried}
use Rattle.solve.specs.Solutions.{HasSchedule, IsSolutionBy}
use Rattle.solve.specs.Tried.{IsTriedBy}
use Rattle.solve.specs.declared.tries.Tried.{Tried}
use Rattle.solve.proofs.solver.best_of.Given as goal

-- the best answer so far, and the tries behind the first that were made
abbrev pub invariant-loop-k : goal.invariant-loop-k
invariant-loop-k g l = record {
  callable : goal.F-IsAlwaysCallable g l.attempt;
  solution : (league : Instance) → IsSolutionBy league l.fn.budgets (g.W.Watch.may_stop l.watch) l.fn.first
      → ((k : ℕ) (tried : Tried) → k < 2 ^ 64 → goal.F-post g l.attempt k (Ok tried)
      → IsTriedBy league l.fn.budgets (g.W.Watch.may_stop l.watch) tried)
      → IsSolutionBy league l.fn.budgets (g.W.Watch.may_stop l.watch) l.best;
  later : List Tried;
  each : (k : ℕ) (d : Tried) → k < length later → goal.F-post g l.attempt (k + 1) (Ok (get_or later k d));
  tried : length later + 1 ≡ l.k;
  within : 1 < l.k → l.k ≤ l.fn.budgets.tries;
  best : IsBestOf (season_of l.fn.first ∷ map season_tried later) (season_of l.best);
  schedule : HasSchedule l.fn.first → HasSchedule l.best;
}
