-- What is said of a log over rows: that it refutes them, or which step is the first that doesn't follow.
use Rattle.std.specs.Prelude.{ℕ, ◌+◌, Bool, true, false, List, [], ◌∷◌, ◌++◌, length}
use Rattle.std.specs.Prelude.{Option, Some, None, Result, Ok, Err}
use Rattle.rows.specs.Rows.{Row}
use Rattle.refutation.specs.Steps.{Step}
use Rattle.refutation.specs.Steps.Step.{Clause, Linear}
use Rattle.refutation.specs.Following.{judged}
use Rattle.refutation.specs.declared.verdict.Cause.{Cause}
use Rattle.refutation.specs.declared.verdict.Cause.TheVariants.{NoEmptyClause}
use Rattle.refutation.specs.declared.verdict.Verdict.{Verdict}
use Rattle.refutation.specs.declared.verdict.Verdict.TheVariants.{Accepted, Rejected}

-- the fault of the step with this number, or what is said of the later steps where this one's row stands before them
abbrev pub fault_or : ℕ → Result Row Cause → (Row → Option (ℕ × Cause)) → Option (ℕ × Cause)
fault_or step (Err cause) later = Some (step, cause)
fault_or step (Ok row) later = later row

-- The first step that doesn't follow, and why, where n steps stand among the rows already. The rows have the numbers
-- from 1 on, and each step's row comes behind them.
abbrev pub first_fault : List Row → ℕ → ℕ → List Step → Option (ℕ × Cause)
first_fault rows vars n [] = None
first_fault rows vars n (step ∷ steps) =
    fault_or (n + 1) (judged rows vars step) (λ row. first_fault (rows ++ row ∷ []) vars (n + 1) steps)

-- whether a step is the empty clause
abbrev pub is_empty_clause : Step → Bool
is_empty_clause (Clause [] hints) = true
is_empty_clause (Clause (l ∷ ls) hints) = false
is_empty_clause (Linear parts divisor) = false

-- whether there is a step, and the last one is the empty clause
abbrev pub ends_empty : List Step → Bool
ends_empty [] = false
ends_empty (step ∷ []) = is_empty_clause step
ends_empty (step ∷ next ∷ steps) = ends_empty (next ∷ steps)

-- the verdict on n steps, from their first fault and whether they end with the empty clause
abbrev pub verdict_by : Option (ℕ × Cause) → Bool → ℕ → Verdict
verdict_by (Some (step, cause)) ends n = Rejected step cause
verdict_by None true n = Accepted
verdict_by None false n = Rejected n NoEmptyClause

-- the verdict on a log over rows of variables up to `vars`
abbrev pub verdict_of : List Row → ℕ → List Step → Verdict
verdict_of rows vars steps = verdict_by (first_fault rows vars 0 steps) (ends_empty steps) (length steps)
