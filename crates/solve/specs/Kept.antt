-- The budgets to which a run kept.
use Rattle.std.specs.Prelude.{◌≡◌, Some}
use Rattle.robin_watch.specs.declared.budgets.Budgets.{Budgets}
use Rattle.robin_watch.specs.Limits.{IsKeptTo}

-- those that were set, or, where the run may be stopped, lower ones of clauses and moves
pub record AreKeptTo (budgets : Budgets) (may_stop : Type 0) (kept : Budgets) : Type 0 where
  pub conflicts : IsKeptTo budgets.conflicts may_stop kept.conflicts
  pub patterns : IsKeptTo (Some budgets.patterns) may_stop (Some kept.patterns)
  pub moves : IsKeptTo (Some budgets.moves) may_stop (Some kept.moves)
  pub tries : kept.tries ≡ budgets.tries
  pub seed : kept.seed ≡ budgets.seed
