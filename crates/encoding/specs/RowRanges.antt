-- Which rows of a league are those of which constraint. Rows and constraints count from 0 in their order, soft
-- constraints too.
use Rattle.std.specs.Prelude.{ℕ, ◌+◌, ◌<◌, ◌≤◌, List, ◌++◌, length, map, take, drop}
use Rattle.std.specs.List.{range_with_len}
use Rattle.league.specs.Instance.{Instance}
use Rattle.league.specs.declared.class.Constraint.{Constraint}
use Rattle.rows.specs.Rows.{Row}
use Rattle.encoding.specs.Encoding.{constraint_rows, season_rows}
use Rattle.encoding.specs.Season.{break_rows}
use Rattle.encoding.specs.Variables.{has_breaks}

-- the rows of constraint k: those of its class, and none where it is soft
abbrev pub rows_of_constraint : Instance → ℕ → List Row
rows_of_constraint league k = constraint_rows league.n (take 1 (drop k league.constraints))

-- where they begin behind so many rows and those of the constraints before
abbrev pub first_behind : ℕ → ℕ → List Constraint → ℕ → ℕ
first_behind before n constraints k = before + length (constraint_rows n (take k constraints))

-- where they begin in the rows of the league: the season's rows come first, and those of breaks
abbrev pub first_row : Instance → ℕ → ℕ
first_row league k = first_behind
    (length (season_rows league.n league.phased ++ break_rows league.n (has_breaks league.constraints)))
    league.n league.constraints k

-- where the rows of each constraint begin behind so many rows, and at the end, where those of the last one end
abbrev pub starts_behind : ℕ → ℕ → List Constraint → List ℕ
starts_behind before n constraints =
    map (first_behind before n constraints) (range_with_len 0 (length constraints + 1))

-- where the rows of each constraint begin in the rows of the league, and those of the last one end
abbrev pub first_rows : Instance → List ℕ
first_rows league = map (first_row league) (range_with_len 0 (length league.constraints + 1))

-- a row is one of constraint k: it lies between where the rows of k begin and where those of the next one do
pub record IsRowOf (league : Instance) (k row : ℕ) : Type 0 where
  pub there : k < length league.constraints
  pub from : first_row league k ≤ row
  pub below : row < first_row league (k + 1)
