-- The encoding of a league: its rows, in order, and their size (own encoding).
use Rattle.std.specs.Prelude.{ℕ, Bool, nat_lt, List, ◌++◌}
use Rattle.std.specs.List.{filter, flat_map}
use Rattle.league.specs.Accepted.{hard_of}
use Rattle.league.specs.Instance.{Instance}
use Rattle.league.specs.declared.class.Class.{Class}
use Rattle.league.specs.declared.class.Constraint.{Constraint}
use Rattle.rows.specs.Rows.{Row, size_of}
use Rattle.encoding.specs.Demands.{rows_by_key}
use Rattle.encoding.specs.Season.{break_rows, cell_rows, half_rows, meeting_rows, slot_rows, team_rows, venue_rows}
use Rattle.encoding.specs.Variables.{has_breaks}

-- the rows of a season without constraints: groups 1 to 6
abbrev pub season_rows : ℕ → Bool → List Row
season_rows n phased =
    meeting_rows n ++ cell_rows n ++ half_rows n phased ++ venue_rows n ++ slot_rows n ++ team_rows n

-- whether a row demands anything: one of degree 0 doesn't
abbrev pub demands : Row → Bool
demands row = nat_lt 0 row.degree

-- the rows of a class, key by key, but for those that demand nothing
abbrev pub class_rows : ℕ → Class → List Row
class_rows n class = filter demands (flat_map (λ rows. rows) (rows_by_key n class))

-- the rows of the hard constraints, in file order: group 8
abbrev pub constraint_rows : ℕ → List Constraint → List Row
constraint_rows n constraints = flat_map (λ c. class_rows n c.class) (hard_of constraints)

-- the rows of a league
abbrev pub rows_of : Instance → List Row
rows_of league =
    season_rows league.n league.phased
    ++ break_rows league.n (has_breaks league.constraints)
    ++ constraint_rows league.n league.constraints

-- how many terms they have
abbrev pub encoding_size : Instance → ℕ
encoding_size league = size_of (rows_of league)
