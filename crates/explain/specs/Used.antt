-- What a log uses, from its end back, and which constraints it names so: those of whose rows it uses one.
use Rattle.std.specs.Prelude.{◌≡◌, ℕ, ◌+◌, ◌<◌, ◌≤◌, ◌&&◌, ◌||◌, Bool, true, false, nat_lt, List, [], length, map}
use Rattle.std.specs.Prelude.{Some, Contains, slice_get}
use Rattle.std.specs.List.{All, slice_index_or}
use Rattle.std.specs.Option.{option_map_or}
use Rattle.league.specs.Instance.{Instance}
use Rattle.league.specs.Sets.{is_in}
use Rattle.encoding.specs.Encoding.{rows_of}
use Rattle.encoding.specs.RowRanges.{IsRowOf}
use Rattle.refutation.specs.Steps.{Step}
use Rattle.refutation.specs.Steps.Step.{Clause, Linear}

-- the numbers that a step names: its hints, or the rows of its parts
abbrev pub numbers_named : Step → List ℕ
numbers_named (Clause clause hints) = hints
numbers_named (Linear parts divisor) = map (λ part. part.row) parts

-- the numbers that the step at a place names, from 0
abbrev pub named_at : List Step → ℕ → List ℕ
named_at log k = option_map_or numbers_named (slice_get log k) []

-- What a log over so many rows uses, by number: the rows have the numbers from 1, and the steps those behind them. Its
-- last step is used, and so is what a step that is used names of what stands before it.
pub data IsUsed (rows : ℕ) (log : List Step) : ℕ → Type 0 where
  is_last : (number : ℕ) → 0 < length log → number ≡ rows + length log → IsUsed rows log number
  is_named : (k number : ℕ) → IsUsed rows log (rows + k + 1) → Contains (named_at log k) number → number ≤ rows + k
      → IsUsed rows log number

-- a log uses a row of the constraint at a place, from 0
abbrev pub UsesConstraint : Instance → List Step → ℕ → Type 0
UsesConstraint league log place =
    (row : ℕ) × IsRowOf league place row × IsUsed (length (rows_of league)) log (row + 1)

-- The log uses the constraints with the named numbers, and no others, of a league whose constraints have these numbers
-- in turn.
pub record AreNamed (league : Instance) (numbers : List ℕ) (log : List Step) (named : List ℕ) : Type 0 where
  pub used : All
      (λ number. (place : ℕ) × ((slice_get numbers place ≡ Some number) × UsesConstraint league log place))
      named
  pub all : (place number : ℕ) → slice_get numbers place ≡ Some number → UsesConstraint league log place
      → Contains named number

-- ---- flags, of which the first is that of number 1

-- each flag says whether its number is used
pub record IsMarked (rows : ℕ) (log : List Step) (flags : List Bool) : Type 0 where
  pub long : length flags ≡ rows + length log
  pub sound : (place : ℕ) → slice_index_or flags place false ≡ true → IsUsed rows log (place + 1)
  pub complete : (place : ℕ) → IsUsed rows log (place + 1) → slice_index_or flags place false ≡ true

-- below a limit, the flags of some numbers were set, and no others changed
pub record AreNoted (limit : ℕ) (numbers : List ℕ) (old new : List Bool) : Type 0 where
  pub long : length new ≡ length old
  pub each : (place : ℕ) → slice_index_or new place false
      ≡ (slice_index_or old place false || (nat_lt place limit && is_in (place + 1) numbers))
