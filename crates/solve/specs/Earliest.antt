-- Which of the schedules that tries find is the answer.
use Rattle.std.specs.Prelude.{◌≡◌, ℕ, ◌+◌, ◌<◌, ◌≤◌, ◌∷◌, ◌++◌, List, get_or, length, map}
use Rattle.std.specs.Prelude.{Option, None, Some, IfSome, IsNone}
use Rattle.robin_watch.specs.declared.budgets.Budgets.{Budgets}
use Rattle.league.specs.Instance.{Instance}
use Rattle.std.specs.List.{All}
use Rattle.solve.specs.Solutions.{IsRefuted, IsSolutionBy}
use Rattle.solve.specs.Tried.{IsTriedBy}
use Rattle.solve.specs.declared.lower.Season.{Season}
use Rattle.solve.specs.declared.solved.Solved.{Solved}
use Rattle.solve.specs.declared.solved.Solved.TheVariants as answers
use Rattle.solve.specs.declared.tries.Tried.{Tried}
use Rattle.solve.specs.declared.tries.Tried.TheVariants as tries

-- the schedule that an answer has, with its objective and its descent
abbrev pub season_of : Solved → Option Season
season_of (answers.Schedule games objective descent) =
    Some (record { schedule = games; objective = objective; descent = descent })
season_of (answers.Refuted log) = None
season_of (answers.Spent log patterns) = None

-- the schedule that a try finds
abbrev pub season_tried : Tried → Option Season
season_tried (tries.Found season) = Some season
season_tried (tries.Refuted log) = None
season_tried (tries.Spent log) = None

-- the earliest schedule of the least objective, in the order of the tries, of those that tries find
pub record IsEarliestLeast (found : List (Option Season)) (season : Season) : Type 0 where
  pub before : List (Option Season)
  pub after : List (Option Season)
  pub place : found ≡ before ++ Some season ∷ after
  pub earlier : All (λ o. IfSome o (λ s. season.objective < s.objective)) before
  pub later : All (λ o. IfSome o (λ s. season.objective ≤ s.objective)) after

-- the best of what tries find: the earliest schedule of the least objective, and none only where none is found
abbrev pub IsBestOf : List (Option Season) → Option Season → Type 0
IsBestOf found (Some season) = IsEarliestLeast found season
IsBestOf found None = All IsNone found

-- An answer is the best of what a first try and those behind it find. `attempt k tried` says that the try that is k
-- behind the first comes to this, and none is left out. There are no more tries than there may be, and fewer only where
-- the answer refutes, or where the run may be stopped.
pub record IsBestOfTries (attempt : ℕ → Tried → Type 0) (budgets : Budgets) (may_stop : Type 0) (first answer : Solved)
    : Type 0 where
  pub later : List Tried
  pub each : (k : ℕ) (d : Tried) → k < length later → attempt (k + 1) (get_or later k d)
  pub few : 0 < length later → length later < budgets.tries
  pub all : (IsRefuted answer → ⊥) → (may_stop → ⊥) → budgets.tries ≤ length later + 1
  pub best : IsBestOf (season_of first ∷ map season_tried later) (season_of answer)

-- an answer is the best of a first try, which comes to an answer too, and of those behind it
pub record IsBest (league : Instance) (budgets : Budgets) (may_stop : Type 0) (answer : Solved) : Type 0 where
  pub first : Solved
  pub is_solution : IsSolutionBy league budgets may_stop first
  pub tries : IsBestOfTries (λ k tried. IsTriedBy league budgets may_stop tried) budgets may_stop first answer
