-- How steps that followed are kept, and what a number of a row, a hint and a part come to.
use Rattle.std.specs.Prelude.{◌≡◌, ℕ, List, ◌++◌, map, Option, Some, None, Result, Ok, Err, if◌then◌else◌}
use Rattle.rows.specs.Rows.{Row}
use Rattle.rows.specs.Forcing.{with_forced}
use Rattle.rows.specs.declared.partial.Value.{Value}
use Rattle.rows.specs.Sums.{Totals}
use Rattle.refutation.specs.Following.{is_in_conflict, no_demand}
use Rattle.refutation.specs.declared.step.StepKind.{StepKind}
use Rattle.refutation.specs.declared.step.StepKind.TheVariants as kinds
use Rattle.refutation.specs.declared.verdict.Cause.{Cause}
use Rattle.refutation_check.specs.Judged.{Judged, JudgedStep}
use Rattle.refutation_check.specs.declared.kept.KeptStep.{KeptStep}
use Rattle.refutation_check.specs.declared.kept.KeptStep.TheVariants.{Tautology, Clause, Narrow, Wide}
use Rattle.refutation_check.specs.declared.kept.Rejection.{Rejection}
use Rattle.refutation_check.specs.declared.replay.Turn.{Turn}
use Rattle.refutation_check.specs.declared.replay.Turn.TheVariants.{Unknown, Conflict, Forced}

-- ---- steps

-- a step that followed
abbrev pub judged_step : KeptStep → JudgedStep
judged_step Tautology = record { row = no_demand; kind = kinds.Clause }
judged_step (Clause terms) = record { row = record { terms = terms.items; degree = 1 }; kind = kinds.Clause }
judged_step (Narrow terms degree) =
    record { row = record { terms = terms.value.items; degree = degree }; kind = kinds.Linear }
judged_step (Wide row) = record { row = row.value; kind = kinds.Linear }

-- their rows
abbrev pub step_rows : List KeptStep → List Row
step_rows steps = map (λ s. s.row) (map judged_step steps)

-- the rows that the next step may name
abbrev pub all_rows : List Row → List KeptStep → List Row
all_rows rows steps = rows ++ step_rows steps

abbrev pub rejection_of : Option Rejection → Option (ℕ × Cause)
rejection_of None = None
rejection_of (Some rejection) = Some (rejection.step, rejection.cause)

-- what the steps of a log have come to
abbrev pub state_of : List Row → ℕ → List KeptStep → Option Rejection → Judged
state_of rows vars steps rejection = record {
  rows = rows;
  vars = vars;
  steps = map judged_step steps;
  rejection = rejection_of rejection;
}

-- what a step comes to, as its row
abbrev pub row_result : Result KeptStep Cause → Result Row Cause
row_result (Ok step) = Ok (judged_step step).row
row_result (Err cause) = Err cause

-- a step that followed is of this kind
abbrev pub IsOfKind : StepKind → Result KeptStep Cause → Type 0
IsOfKind kind (Ok step) = (judged_step step).kind ≡ kind
IsOfKind kind (Err cause) = Unit {0}

-- ---- hints and parts

-- what the row comes to that a hint names, and which values there are then
abbrev pub turn_at : Option Row → (ℕ → Value) → Turn
turn_at None values = Unknown
turn_at (Some row) values = if is_in_conflict values row then Conflict else Forced

abbrev pub forced_at : Option Row → (ℕ → Value) → ℕ → Value
forced_at None values = values
forced_at (Some row) values = with_forced values row

-- a fault, or what comes where there is none
abbrev pub unless_fault : Option Cause → Result Totals Cause → Result Totals Cause
unless_fault None others = others
unless_fault (Some cause) others = Err cause
