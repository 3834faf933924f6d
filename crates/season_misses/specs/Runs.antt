-- How the home games of a team add up over the season.
use Rattle.std.specs.Prelude.{ℕ, List, map, slice_index}
use Rattle.std.specs.List.{range_with_len}
use Rattle.league.specs.Bounds.{difference}
use Rattle.league.specs.Counts.{Counts, slot_count}
use Rattle.league.specs.Fairness.{home_played}

-- the home games that team i has played after each slot
abbrev pub home_runs : ℕ → Counts → ℕ → List ℕ
home_runs n m i = map (home_played n m i) (range_with_len 0 (slot_count n))

-- how far two such lists are apart after slot s
abbrev pub runs_apart : List ℕ → List ℕ → ℕ → ℕ
runs_apart first second s = difference (slice_index first s) (slice_index second s)
