-- Where each number stands in a list.
use Rattle.std.specs.Prelude.{◌≡◌, ℕ, ◌+◌, ◌-◌, ◌<◌, ◌≤◌, nat_lt, if◌then◌else◌, List, length, slice_index}
use Rattle.std.specs.Prelude.{Option, Some, None}
use Rattle.std.specs.Ordering.{nat_cmp}
use Rattle.league.specs.Sets.{IsAscending}

-- the place of each number below 78 among the first so many of the list xs, counted from 1, or 0 where it isn't there
pub record ArePlaces (count : ℕ) (xs places : List ℕ) : Type 0 where
  pub size : length places ≡ 78
  pub there : (k : ℕ) → k < count → slice_index places (slice_index xs k) ≡ k + 1
  pub here : (t : ℕ) → 0 < slice_index places t → slice_index xs (slice_index places t - 1) ≡ t
  pub within : (t : ℕ) → slice_index places t ≤ count

-- the place of a number, counted from 0, if it has one
abbrev pub place_of : List ℕ → ℕ → Option ℕ
place_of places t = if nat_lt 0 (slice_index places t) then Some (slice_index places t - 1) else None

-- at most 78 numbers in ascending order, with the place of each
pub record AreListed (xs places : List ℕ) : Type 0 where
  pub ascending : IsAscending nat_cmp xs
  pub few : length xs ≤ 78
  pub placed : ArePlaces (length xs) xs places
