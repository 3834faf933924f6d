-- Rows of steps that are let go where no later step names them, and what a checker then still comes to.
use Rattle.std.specs.Prelude.{◌≡◌, ◌≢◌, ℕ, ◌+◌, ◌≤◌, ◌<◌, nat_lt, List, [], drop, get_or, length, map, slice_get, slice_set, take, false}
use Rattle.std.specs.Prelude.{Option, if◌then◌else◌}
use Rattle.std.specs.Option.{option_map_or}
use Rattle.std.specs.List.{All, fold}
use Rattle.refutation.specs.Following.{no_demand, row_numbered}
use Rattle.refutation.specs.Steps.{Step}
use Rattle.refutation.specs.Steps.Step.{Clause, Linear}
use Rattle.refutation.specs.declared.step.StepKind.TheVariants as kinds
use Rattle.refutation_check.specs.Judged.{Judged, JudgedStep, after_step, ends_false, rows_of}
use Rattle.refutation_check.specs.Room.{has_room, steps_bytes}

-- ---- names

-- the numbers of the rows that a step names
abbrev pub names : Step → List ℕ
names (Clause clause hints) = hints
names (Linear parts divisor) = map (λ p. p.row) parts

-- the numbers of the rows that the step at a place of a log names; none where there is no step
abbrev pub names_at : List Step → ℕ → List ℕ
names_at steps k = option_map_or names (slice_get steps k) []

-- none of these numbers is this one
abbrev pub Lacks : ℕ → List ℕ → Type 0
Lacks number numbers = All (λ n. n ≢ number) numbers

-- no step names the row with this number
abbrev pub NoneNames : ℕ → List Step → Type 0
NoneNames number steps = All (λ step. Lacks number (names step)) steps

-- A table of the places of a log's steps, whose rows have the numbers behind `before`. Of the steps up to a place, none
-- behind the one that stands in the table names the row.
abbrev pub AreLastUpTo : ℕ → List Step → ℕ → List ℕ → Type 0
AreLastUpTo before log end last =
    (p k : ℕ) → p < length last → k < end → get_or last p 0 < k → Lacks (before + p + 1) (names_at log k)

-- no step behind the one that stands in the table names the row
abbrev pub AreLast : ℕ → List Step → List ℕ → Type 0
AreLast before log last =
    (p k : ℕ) → p < length last → get_or last p 0 ≤ k → NoneNames (before + p + 1) (drop (k + 1) log)

-- ---- rows that are let go

-- a step whose row is let go: the row without demand stands in its place
abbrev pub gone : JudgedStep
gone = record { row = no_demand; kind = kinds.Clause }

-- the row of the step at a place is let go, unless it is the last step
abbrev pub without : ℕ → List JudgedStep → List JudgedStep
without place steps = if nat_lt (place + 1) (length steps) then slice_set steps place gone else steps

abbrev pub forget : ℕ → Judged → Judged
forget place state = record {
  rows = state.rows;
  vars = state.vars;
  steps = without place state.steps;
  rejection = state.rejection;
}

-- each row that the step names is the same in both states
abbrev pub NamesSame : Judged → Judged → Step → Type 0
NamesSame full lean step = All (λ n. row_numbered (rows_of lean) n ≡ row_numbered (rows_of full) n) (names step)

-- What the steps of a log have come to, in full and with rows let go that take so many bytes. Later steps come to the
-- same behind both.
pub record IsLean (full lean : Judged) (freed : ℕ) (later : List Step) : Type 0 where
  pub rows : lean.rows ≡ full.rows
  pub vars : lean.vars ≡ full.vars
  pub rejection : lean.rejection ≡ full.rejection
  pub count : length lean.steps ≡ length full.steps
  pub ends : ends_false lean.steps ≡ ends_false full.steps
  pub named : All (NamesSame full lean) later
  pub bytes : steps_bytes lean.steps + freed ≡ steps_bytes full.steps

-- some first steps of a log don't keep to a limit
abbrev pub PassesSome : Option ℕ → Judged → List Step → Type 0
PassesSome room before log =
    (k : ℕ) × (k ≤ length log) × (has_room room (fold after_step before (take k log)) ≡ false)
