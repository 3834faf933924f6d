-- What each team is allowed, as it is kept.
use Rattle.std.specs.Prelude.{◌≡◌, ℕ, ◌+◌, ◌<◌, ◌≤◌, min as smaller, List, length, slice_index, if◌then◌else◌}
use Rattle.std.specs.List.{All}
use Rattle.league.specs.Counts.{slot_count}
use Rattle.league.specs.Sets.{is_in}
use Rattle.league.specs.declared.class.Constraint.{Constraint}
use Rattle.league.specs.declared.class.Side.{Side}
use Rattle.break_counts.specs.BreakCounts.{allowed_of, allowed_on}
use Rattle.break_counts.specs.declared.stretch.Stretch.{Stretch}

-- team by team, on a side
pub record IsTableOn (n : ℕ) (constraints : List Constraint) (stretches : List Stretch) (side : Side)
    (table : List ℕ) : Type 0 where
  pub count : length table ≡ n
  pub each : (i : ℕ) → i < n → slice_index table i ≡ allowed_on constraints stretches side i

-- what each team is allowed by both sides
pub record IsTable (n : ℕ) (constraints : List Constraint) (stretches : List Stretch) (table : List ℕ) : Type 0 where
  pub count : length table ≡ n
  pub each : (i : ℕ) → i < n → slice_index table i ≡ allowed_of constraints stretches i

-- the numbers of these teams are lowered to at most this
abbrev pub AreLowered : List ℕ → List ℕ → ℕ → List ℕ → Type 0
AreLowered teams before most after = (i : ℕ) → slice_index after i
    ≡ (if is_in i teams then smaller (slice_index before i) most else slice_index before i)

-- each number is this one
abbrev pub IsUniform : ℕ → List ℕ → Type 0
IsUniform most table = (i : ℕ) → i < length table → slice_index table i ≡ most

-- stretches of some slots of the season
abbrev pub AreInSeason : ℕ → List Stretch → Type 0
AreInSeason n stretches = All (λ t. (1 ≤ t.count) × (t.first + t.count ≤ slot_count n)) stretches
