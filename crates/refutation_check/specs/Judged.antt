-- What the steps of a log come to, one after another: the rows of those that followed, and the first that didn't.
use Rattle.std.specs.Prelude.{◌≡◌, ℕ, ◌+◌, ◌==◌, ◌&&◌, Bool, true, false, List, [], ◌∷◌, ◌++◌, length, map}
use Rattle.std.specs.Prelude.{Option, Some, None, Result, Ok, Err}
use Rattle.std.specs.List.{fold}
use Rattle.rows.specs.Rows.{Row}
use Rattle.rows.specs.declared.lit.Term.{Term}
use Rattle.refutation.specs.Steps.{Step, kind_of}
use Rattle.refutation.specs.Following.{judged}
use Rattle.refutation.specs.Verdict.{verdict_by, verdict_of}
use Rattle.refutation.specs.declared.step.StepKind.{StepKind}
use Rattle.refutation.specs.declared.step.StepKind.TheVariants as kinds
use Rattle.refutation.specs.declared.verdict.Cause.{Cause}
use Rattle.refutation.specs.declared.verdict.Verdict.{Verdict}

-- A step that followed: the row as which it stands, and its kind.
pub record JudgedStep : Type 0 where
  pub row : Row
  pub kind : StepKind

-- The rows and their number of variables, the steps that followed, and the number and the fault of the first that
-- didn't.
pub record Judged : Type 0 where
  pub rows : List Row
  pub vars : ℕ
  pub steps : List JudgedStep
  pub rejection : Option (ℕ × Cause)

-- no step has come
abbrev pub no_step_of : List Row → ℕ → Judged
no_step_of rows vars = record { rows = rows; vars = vars; steps = []; rejection = None }

-- ---- one step more

-- the rows that the next step may name
abbrev pub rows_of : Judged → List Row
rows_of state = state.rows ++ map (λ s. s.row) state.steps

-- a step more that stands as a row, or that doesn't follow
abbrev pub with_step : Judged → StepKind → Result Row Cause → Judged
with_step state kind (Ok row) = record {
  rows = state.rows;
  vars = state.vars;
  steps = state.steps ++ record { row = row; kind = kind } ∷ [];
  rejection = None;
}
with_step state kind (Err cause) = record {
  rows = state.rows;
  vars = state.vars;
  steps = state.steps;
  rejection = Some (length state.steps + 1, cause);
}

-- a step more: behind a rejection nothing is judged
abbrev pub after_step : Judged → Step → Judged
after_step state step = elim state.rejection [
  | None ↦ with_step state (kind_of step) (judged (rows_of state) state.vars step)
  | Some rejection ↦ state
]

-- ---- the verdict

abbrev pub is_clause : StepKind → Bool
is_clause kinds.Clause = true
is_clause kinds.Linear = false

abbrev pub are_none : List Term → Bool
are_none [] = true
are_none (t ∷ terms) = false

-- whether it is the empty clause: at least 1 of no literal
abbrev pub is_falsum : JudgedStep → Bool
is_falsum s = is_clause s.kind && (are_none s.row.terms && s.row.degree == 1)

-- whether there is a step, and the last one is the empty clause
abbrev pub ends_false : List JudgedStep → Bool
ends_false [] = false
ends_false (s ∷ []) = is_falsum s
ends_false (s ∷ t ∷ steps) = ends_false (t ∷ steps)

-- the verdict on the steps that have come
abbrev pub verdict_so_far : Judged → Verdict
verdict_so_far state = verdict_by state.rejection (ends_false state.steps) (length state.steps)

-- the steps of a log, one after another, come to the verdict on the log
abbrev pub StepsGiveVerdict : Type 0
StepsGiveVerdict =
    (rows : List Row) (vars : ℕ) (steps : List Step)
    → verdict_so_far (fold after_step (no_step_of rows vars) steps) ≡ verdict_of rows vars steps
