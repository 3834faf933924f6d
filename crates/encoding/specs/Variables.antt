-- The variables of a league, numbered from 1 (own encoding). For teams i and j that differ, and slots s from 0:
--     x(i,j,s)    the game of i at home to j takes place in slot s
--     h(i,s)      team i plays at home in slot s
--     hb(i,s)     team i has a home break at slot s, from 1 on
--     ab(i,s)     team i has an away break at slot s, from 1 on
-- Breaks have variables only where a hard constraint bounds them.
use Rattle.std.specs.Prelude.{ℕ, ◌+◌, ◌-◌, ◌*◌, Bool, true, false, nat_lt, ◌&&◌, if◌then◌else◌, List}
use Rattle.std.specs.List.{list_any}
use Rattle.league.specs.Counts.{slot_count}
use Rattle.league.specs.Instance.{Instance}
use Rattle.league.specs.declared.class.Class.{Class}
use Rattle.league.specs.declared.class.Class.TheVariants.{Br1, Br2}
use Rattle.league.specs.declared.class.Constraint.{Constraint}

-- the place of j among the teams other than i
abbrev pub place_beside : ℕ → ℕ → ℕ
place_beside i j = if nat_lt j i then j else j - 1

abbrev pub x_var : ℕ → ℕ → ℕ → ℕ → ℕ
x_var n i j s = 1 + (i * (n - 1) + place_beside i j) * slot_count n + s

-- how many games a league can have: each meeting in each slot
abbrev pub x_count : ℕ → ℕ
x_count n = n * (n - 1) * slot_count n

abbrev pub h_var : ℕ → ℕ → ℕ → ℕ
h_var n i s = 1 + x_count n + i * slot_count n + s

abbrev pub h_count : ℕ → ℕ
h_count n = n * slot_count n

abbrev pub hb_var : ℕ → ℕ → ℕ → ℕ
hb_var n i s = 1 + x_count n + h_count n + i * (slot_count n - 1) + (s - 1)

-- how many places there are for a home break
abbrev pub hb_count : ℕ → ℕ
hb_count n = n * (slot_count n - 1)

abbrev pub ab_var : ℕ → ℕ → ℕ → ℕ
ab_var n i s = hb_var n i s + hb_count n

-- whether a class bounds breaks
abbrev pub bounds_breaks : Class → Bool
bounds_breaks (Br1 teams intp side slots) = true
bounds_breaks (Br2 teams intp slots) = true
bounds_breaks other = false

-- whether breaks have variables: some hard constraint bounds them
abbrev pub has_breaks : List Constraint → Bool
has_breaks constraints = list_any (λ c. c.hard && bounds_breaks c.class) constraints

-- how many variables a league has
abbrev pub var_count : Instance → ℕ
var_count league =
    x_count league.n + h_count league.n + (if has_breaks league.constraints then 2 * hb_count league.n else 0)
