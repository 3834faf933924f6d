-- What is kept of the games of one team with each of some other teams, slot by slot.
use Rattle.std.specs.Prelude.{◌≡◌, ℕ, ◌+◌, ◌-◌, ◌*◌, ◌≤◌, ◌++◌, nat_lt, if◌then◌else◌, List}
use Rattle.std.specs.Prelude.{length, replicate, slice_index, Option, Some, None}
use Rattle.std.specs.List.{All, flat_map, range_with_len}
use Rattle.std.specs.Option.{option_to_list}
use Rattle.league.specs.Counts.{Counts, slot_count}
use Rattle.league.specs.Separation.{lacking, se1_entry}
use Rattle.rule_core.specs.Places.{hosts, visits}
use Rattle.rule_core.specs.declared.place.Place.{Place}
use Rattle.deviation.specs.declared.team_gaps.TeamGaps.{TeamGaps}

-- the slot of the last game, by the first slot after it: none where that is 0
abbrev pub last_before : ℕ → Option ℕ
last_before next = if nat_lt 0 next then Some (next - 1) else None

-- the slots of the games of teams i and j from a slot on, each as often as it stands
abbrev pub games_from : ℕ → Counts → ℕ → ℕ → ℕ → List ℕ
games_from n m i j slot = flat_map (λ s. replicate (m i j s + m j i s) s) (range_with_len slot (slot_count n - slot))

-- there is a place for each of 40 teams, and what is in it is of the slots before one
pub record IsKept (slot : ℕ) (gaps : TeamGaps) : Type 0 where
  pub next : length gaps.next ≡ 40
  pub totals : length gaps.totals ≡ 40
  pub before : (j : ℕ) → slice_index gaps.next j ≤ slot
  pub bounded : (j : ℕ) → slice_index gaps.totals j ≤ 20000 * 4294967296 * slot

-- what the games of teams i and j before a slot lack so far: with what the games from it on add, it is the entry
abbrev pub IsSummed : ℕ → Counts → ℕ → ℕ → ℕ → TeamGaps → ℕ → Type 0
IsSummed n m min i slot gaps j =
    slice_index gaps.totals j
    + lacking min (option_to_list (last_before (slice_index gaps.next j)) ++ games_from n m i j slot)
    ≡ se1_entry n m min (i, j)

-- what the games of team i with each of these teams lack so far
abbrev pub AreSummed : ℕ → Counts → ℕ → ℕ → ℕ → List ℕ → TeamGaps → Type 0
AreSummed n m min i slot teams gaps = All (IsSummed n m min i slot gaps) teams

-- a place tells all games of team i in a slot
pub record IsPlaceOf (m : Counts) (i slot : ℕ) (place : Place) : Type 0 where
  pub home : (j : ℕ) → m i j slot ≡ (if hosts place j then 1 else 0)
  pub away : (j : ℕ) → m j i slot ≡ (if visits place j then 1 else 0)
