-- The counts of a league's games, as one list.
use Rattle.std.specs.Prelude.{ℕ, ◌+◌, ◌*◌, nat_lt, if◌then◌else◌, List}
use Rattle.league.specs.Counts.{Counts, slot_count}
use Rattle.league.specs.Grid.{number}

-- the number of teams, and how often each game is played, by home team, then away team, then slot
pub record Table : Type 0 where
  pub n : ℕ
  pub list : List ℕ

-- how often each game is played: 0 where there is no such game
abbrev pub table_counts : Table → Counts
table_counts t i j s = if nat_lt j t.n then number (slot_count t.n) t.list (i * t.n + j) s else 0
