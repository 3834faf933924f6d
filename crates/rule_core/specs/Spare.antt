-- The games for which the table has no place.
use Rattle.std.specs.Prelude.{◌≡◌, ◌⊎◌, ℕ, ◌+◌, ◌*◌, ◌≤◌, ◌&&◌, nat_lt, if◌then◌else◌, List, length, slice_index_or}
use Rattle.league.specs.Counts.{Counts, slot_count}

-- where a game is counted, by slot, then home team, then away team, of 40 teams each
abbrev pub spare_place : ℕ → ℕ → ℕ → ℕ
spare_place i j s = (s * 40 + i) * 40 + j

-- how often it is counted: not at all beyond the end
abbrev pub spare_counts : List ℕ → Counts
spare_counts spare i j s = if nat_lt i 40 && nat_lt j 40 then slice_index_or spare (spare_place i j s) 0 else 0

-- counts of games of a league of n teams
pub record AreSpare (n : ℕ) (spare : List ℕ) : Type 0 where
  pub within : (i j s : ℕ) → (n ≤ i) ⊎ (n ≤ j) ⊎ (slot_count n ≤ s) → spare_counts spare i j s ≡ 0
  pub differ : (i s : ℕ) → spare_counts spare i i s ≡ 0
  pub short : length spare ≤ slot_count n * 1600
