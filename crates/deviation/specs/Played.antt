-- Rows of home games that were played.
use Rattle.std.specs.Prelude.{◌≡◌, ℕ, ◌<◌, List, length, slice_index}
use Rattle.league.specs.Counts.{Counts}
use Rattle.league.specs.Fairness.{home_played}
use Rattle.league.specs.Grid.{entry}

-- row i of a table of 78 columns has the home games that team i has played after each of these slots
abbrev pub IsPlayed : ℕ → Counts → List ℕ → List ℕ → ℕ → Type 0
IsPlayed n m slots played i = (q : ℕ) → q < length slots → entry played i q ≡ home_played n m i (slice_index slots q)
