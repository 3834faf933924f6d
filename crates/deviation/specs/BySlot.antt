-- The games of some meetings, home team by home team.
use Rattle.std.specs.Prelude.{ℕ, ◌*◌, if◌then◌else◌, List}
use Rattle.std.specs.List.{sum_by}
use Rattle.league.specs.Counts.{Counts, teams_of}
use Rattle.rule_core.specs.Meetings.{is_listed}

-- how often a meeting of team i with team j is one of these: once or never
abbrev pub listed : List (ℕ × ℕ) → ℕ → ℕ → ℕ
listed meetings i j = if is_listed meetings i j then 1 else 0

-- the games of home team i in slot s that are of these meetings
abbrev pub listed_games : ℕ → Counts → List (ℕ × ℕ) → ℕ → ℕ → ℕ
listed_games n m meetings s i = sum_by (λ j. listed meetings i j * m i j s) (teams_of n)
