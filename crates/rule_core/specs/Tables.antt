-- The tables in which the counts are kept.
use Rattle.std.specs.Prelude.{◌≡◌, ◌≢◌, ℕ, ◌+◌, ◌*◌, ◌/◌, ◌%◌, ◌^◌, ◌<◌, ◌≤◌, Bool, ◌&&◌, ◌==◌, nat_lt, if◌then◌else◌, List}
use Rattle.std.specs.Prelude.{length, map, slice_index}
use Rattle.std.specs.Int.{bit_at}
use Rattle.std.specs.List.{range_with_len, sum}
use Rattle.league.specs.Counts.{Counts, slot_count}
use Rattle.league.specs.Instance.{IsTeamCount}
use Rattle.league.specs.Venues.{away_games, home_games}
use Rattle.league.specs.Grid.{number}
use Rattle.rule_core.specs.Opponents.{AreMirrored, place_at}
use Rattle.rule_core.specs.Places.{hosts}
use Rattle.rule_core.specs.Spare.{AreSpare, spare_counts}
use Rattle.rule_core.specs.declared.counters.Counters.{Counters}
use Rattle.rule_core.specs.declared.place.Place.{Place}

-- the number in a row and column is one more, and all else is the same
pub record IsOneMore (row column : ℕ) (before after : Counters) : Type 0 where
  pub as_wide : after.columns ≡ before.columns
  pub as_long : length after.numbers.items ≡ length before.numbers.items
  pub each : (i k : ℕ) → number after.columns after.numbers.items i k
      ≡ number before.columns before.numbers.items i k + (if (row == i) && (column == k) then 1 else 0)

-- in each row the columns below 78 whose number isn't 0 are set
pub record AreMarked (counters : Counters) : Type 0 where
  pub small : (i : ℕ) → slice_index counters.marks.items i < 2 ^ 78
  pub each : (i k : ℕ) → k < 78 → bit_at (slice_index counters.marks.items i) k
      ≡ (if nat_lt 0 (number counters.columns counters.numbers.items i k) then 1 else 0)

-- a row and column is marked or isn't, and all else is the same
pub record IsMark (row column : ℕ) (there : Bool) (before after : Counters) : Type 0 where
  pub as_wide : after.columns ≡ before.columns
  pub as_numbered : after.numbers.items ≡ before.numbers.items
  pub as_many : length after.marks.items ≡ length before.marks.items
  pub small : slice_index after.marks.items row < 2 ^ 78
  pub here : bit_at (slice_index after.marks.items row) column ≡ (if there then 1 else 0)
  pub along : (k : ℕ) → k < 78 → k ≢ column
      → bit_at (slice_index after.marks.items row) k ≡ bit_at (slice_index before.marks.items row) k
  pub others : (i : ℕ) → i ≢ row → slice_index after.marks.items i ≡ slice_index before.marks.items i

-- a row of marks for each team
pub record HasMarks (n : ℕ) (counters : Counters) : Type 0 where
  pub rows : length counters.marks.items ≡ n
  pub marked : AreMarked counters

-- so many rows, each with a number for every slot of a season of n teams
pub record HasRows (n rows : ℕ) (counters : Counters) : Type 0 where
  pub wide : counters.columns ≡ slot_count n
  pub long : length counters.numbers.items ≡ rows * slot_count n

-- how often a game stands in the table, at most once, and among the spare games
abbrev pub kept_counts : ℕ → List Place → List ℕ → Counts
kept_counts n places spare i j s =
    (if hosts (place_at (slot_count n) places i s) j then 1 else 0) + spare_counts spare i j s

-- counts as one list, by home team, then away team, then slot
abbrev pub listed : ℕ → Counts → List ℕ
listed n m =
    map (λ p. m (p / slot_count n / n) (p / slot_count n % n) (p % slot_count n))
    (range_with_len 0 (n * n * slot_count n))

-- a table of what each team does in each slot, and spare games
pub record AreOpponents (n : ℕ) (places : List Place) (spare : List ℕ) : Type 0 where
  pub size : length places ≡ n * slot_count n
  pub mirrored : AreMirrored n (place_at (slot_count n) places)
  pub counted : AreSpare n spare

-- at most 10,000 games, with each team's home games and away games in each slot beside them
pub record AreKept (n games : ℕ) (places : List Place) (spare : List ℕ) (homes aways : Counters) : Type 0 where
  pub teams : IsTeamCount n
  pub table : AreOpponents n places spare
  pub home_rows : HasRows n n homes
  pub away_rows : HasRows n n aways
  pub total : games ≡ sum (listed n (kept_counts n places spare))
  pub few : games ≤ 10000
  pub home : (i s : ℕ) → number homes.columns homes.numbers.items i s
      ≡ home_games n (kept_counts n places spare) i s
  pub away : (i s : ℕ) → number aways.columns aways.numbers.items i s
      ≡ away_games n (kept_counts n places spare) i s
