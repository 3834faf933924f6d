-- The rows that say: a schedule that the league accepts, with an objective of at most a bound (own form).
use Rattle.std.specs.Prelude.{ℕ, ◌+◌, ◌*◌, Bool, ◌||◌, nat_lt, if◌then◌else◌, List, [], ◌∷◌, ◌++◌, map}
use Rattle.std.specs.List.{filter, flat_map, list_any, sum_by}
use Rattle.league.specs.Accepted.{soft_of}
use Rattle.league.specs.Bounds.{largest}
use Rattle.league.specs.Instance.{Instance}
use Rattle.league.specs.declared.class.Class.{Class}
use Rattle.league.specs.declared.class.Class.TheVariants.{Se1}
use Rattle.league.specs.declared.class.Constraint.{Constraint}
use Rattle.rows.specs.Rows.{Row, size_of}
use Rattle.encoding.specs.Encoding.{class_rows, constraint_rows, season_rows}
use Rattle.encoding.specs.Season.{break_rows}
use Rattle.encoding.specs.Variables.{bounds_breaks, h_count, has_breaks, hb_count, x_count}
use Rattle.bound_rows.specs.Parts.{parts_of}
use Rattle.bound_rows.specs.Softening.{Group, objective_row, order_rows, softened_rows}

-- the soft constraints whose deviation costs something
abbrev pub paid_of : List Constraint → List Constraint
paid_of constraints = filter (λ c. nat_lt 0 c.penalty) (soft_of constraints)

-- whether a constraint that is paid for bounds breaks
abbrev pub has_paid_breaks : List Constraint → Bool
has_paid_breaks constraints = list_any (λ c. bounds_breaks c.class) (paid_of constraints)

-- whether breaks have variables: a hard constraint bounds them, or one that is paid for
abbrev pub needs_breaks : List Constraint → Bool
needs_breaks constraints = has_breaks constraints || has_paid_breaks constraints

-- the rows of the league's encoding, but with variables for breaks where a soft constraint needs them
abbrev pub base_rows : Instance → List Row
base_rows league =
    season_rows league.n league.phased
    ++ break_rows league.n (needs_breaks league.constraints)
    ++ constraint_rows league.n league.constraints

-- how many variables they have
abbrev pub base_vars : Instance → ℕ
base_vars league =
    x_count league.n + h_count league.n + (if needs_breaks league.constraints then 2 * hb_count league.n else 0)

-- how many unit variables the rows of a part share: of SE1 one, else so many as the largest degree, which is enough
abbrev pub units_of : Class → List Row → ℕ
units_of (Se1 teams min) rows = 1
units_of other rows = largest (λ row. row.degree) rows

-- a part as a group of rows
abbrev pub group_of : ℕ → ℕ → Class → Group
group_of n penalty part =
    record { penalty = penalty; units = units_of part (class_rows n part); rows = class_rows n part }

-- the groups of the constraints that are paid for, in file order
abbrev pub groups_of : ℕ → List Constraint → List Group
groups_of n constraints =
    flat_map (λ c. map (group_of n c.penalty) (parts_of n c.class)) (paid_of constraints)

abbrev pub league_groups : Instance → List Group
league_groups league = groups_of league.n league.constraints

-- the number of the first unit variable
abbrev pub first_unit : Instance → ℕ
first_unit league = base_vars league + 1

-- The bound rows. Those that order the units of a group stand last, so that no other row's number depends on them.
abbrev pub bound_rows : Instance → ℕ → List Row
bound_rows league bound =
    base_rows league
    ++ softened_rows (first_unit league) (league_groups league)
    ++ objective_row (first_unit league) (league_groups league) bound ∷ []
    ++ order_rows (first_unit league) (league_groups league)

-- how many variables they have
abbrev pub bound_vars : Instance → ℕ
bound_vars league = base_vars league + sum_by (λ g. g.units) (league_groups league)

-- how many terms they have, which is the same for every bound
abbrev pub bound_size : Instance → ℕ
bound_size league = size_of (bound_rows league 0)
