-- The steps of a log: clauses that follow from rows by hints, and sums of rows.
use Rattle.std.specs.Prelude.{ℕ, ◌≤◌, Bool, true, false, List, []}
use Rattle.std.specs.List.{All, slice_get}
use Rattle.std.specs.Option.{option_map_or}
use Rattle.rows.specs.Literals.{Literal}
use Rattle.refutation.specs.declared.step.Part.{Part}
use Rattle.refutation.specs.declared.step.StepKind.{StepKind}
use Rattle.refutation.specs.declared.step.StepKind.TheVariants as kinds

-- A step: a clause with its hints, the numbers of rows in the order in which they are used; or a sum of rows, each
-- with a factor, divided by a divisor.
pub data Step : Type 0 where
  Clause : (clause : List Literal) → (hints : List ℕ) → Step
  Linear : (parts : List Part) → (divisor : ℕ) → Step

-- ---- what a step has

abbrev pub kind_of : Step → StepKind
kind_of (Clause clause hints) = kinds.Clause
kind_of (Linear parts divisor) = kinds.Linear

abbrev pub clause_of : Step → List Literal
clause_of (Clause clause hints) = clause
clause_of (Linear parts divisor) = []

abbrev pub hints_of : Step → List ℕ
hints_of (Clause clause hints) = hints
hints_of (Linear parts divisor) = []

abbrev pub parts_of : Step → List Part
parts_of (Clause clause hints) = []
parts_of (Linear parts divisor) = parts

abbrev pub divisor_of : Step → ℕ
divisor_of (Clause clause hints) = 0
divisor_of (Linear parts divisor) = divisor

abbrev pub is_linear : Step → Bool
is_linear (Clause clause hints) = false
is_linear (Linear parts divisor) = true

-- ---- the same of the step at a place, from 0

abbrev pub kind_at : List Step → ℕ → StepKind
kind_at steps k = option_map_or kind_of (slice_get steps k) kinds.Clause

abbrev pub clause_at : List Step → ℕ → List Literal
clause_at steps k = option_map_or clause_of (slice_get steps k) []

abbrev pub hints_at : List Step → ℕ → List ℕ
hints_at steps k = option_map_or hints_of (slice_get steps k) []

abbrev pub parts_at : List Step → ℕ → List Part
parts_at steps k = option_map_or parts_of (slice_get steps k) []

abbrev pub divisor_at : List Step → ℕ → ℕ
divisor_at steps k = option_map_or divisor_of (slice_get steps k) 0

-- ---- numbers that can be written

-- the hints, or the rows of the parts, are numbers of rows, from 1
abbrev pub NamesRows : Step → Type 0
NamesRows (Clause clause hints) = All (λ hint. 1 ≤ hint) hints
NamesRows (Linear parts divisor) = All (λ part. 1 ≤ part.row) parts
