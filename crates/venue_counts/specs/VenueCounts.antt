-- Venue counts (own): in a slot half of the teams play at home and half away, so that in k slots all teams together
-- have k times n/2 games on either side. Hard constraints CA1 over exactly these slots may allow fewer, or ask for
-- more.
use Rattle.std.specs.Prelude.{ℕ, ◌*◌, ◌/◌, Bool, true, false, ◌&&◌, nat_lt, min as smaller, max as larger}
use Rattle.std.specs.Prelude.{if◌then◌else◌, List, length, bytes_eq}
use Rattle.std.specs.List.{fold, list_any, sum_by}
use Rattle.league.specs.Accepted.{hard_of}
use Rattle.league.specs.Counts.{teams_of}
use Rattle.league.specs.Instance.{Instance}
use Rattle.league.specs.Sets.{is_in}
use Rattle.league.specs.declared.class.Class.{Class}
use Rattle.league.specs.declared.class.Class.TheVariants.{Ca1}
use Rattle.league.specs.declared.class.Constraint.{Constraint}
use Rattle.league.specs.declared.class.Side.{Side}
use Rattle.league.specs.declared.class.Side.TheVariants.{H, A, Both}

-- whether two sides are one
abbrev pub is_side : Side → Side → Bool
is_side H H = true
is_side A A = true
is_side Both Both = true
is_side _ _ = false

-- whether a side and slots are these, slot by slot
abbrev pub are_those : Side → List ℕ → Side → List ℕ → Bool
are_those side slots other others = is_side side other && bytes_eq slots others

-- ---- too few games are allowed

-- how many games on a side in exactly these slots a class allows team i: `max` of a CA1 that bounds them, and else one
-- in each slot
abbrev pub allowed_by : Side → List ℕ → ℕ → Class → ℕ
allowed_by side slots i (Ca1 teams min max other others) =
    if are_those side slots other others && is_in i teams then max else length slots
allowed_by side slots i class = length slots

-- the bound of team i: the least that a hard constraint allows, and no more than there are slots
abbrev pub bound_of : List Constraint → Side → List ℕ → ℕ → ℕ
bound_of constraints side slots i =
    fold (λ least c. smaller least (allowed_by side slots i c.class)) (length slots) (hard_of constraints)

-- whether the bounds of all teams are together below the games that there are
abbrev pub is_short_at : ℕ → List Constraint → Side → List ℕ → Bool
is_short_at n constraints side slots =
    nat_lt (sum_by (bound_of constraints side slots) (teams_of n)) (length slots * (n / 2))

-- whether the bounds of all teams are below the games that there are, at the side and the slots of a CA1
abbrev pub is_short_by : ℕ → List Constraint → Class → Bool
is_short_by n constraints (Ca1 teams min max side slots) = is_short_at n constraints side slots
is_short_by n constraints class = false

-- whether the venue counts of a league are short: at the side and the slots of a hard CA1
abbrev pub are_short : Instance → Bool
are_short league = list_any (λ c. is_short_by league.n league.constraints c.class) (hard_of league.constraints)

-- ---- too many games are asked for

-- how many games on a side in exactly these slots a class asks of team i: `min` of a CA1 that bounds them, and
-- else none
abbrev pub asked_by : Side → List ℕ → ℕ → Class → ℕ
asked_by side slots i (Ca1 teams min max other others) =
    if are_those side slots other others && is_in i teams then min else 0
asked_by side slots i class = 0

-- the most that a hard constraint asks of team i
abbrev pub floor_of : List Constraint → Side → List ℕ → ℕ → ℕ
floor_of constraints side slots i =
    fold (λ most c. larger most (asked_by side slots i c.class)) 0 (hard_of constraints)

-- whether what is asked of all teams is together above the games that there are
abbrev pub is_crowded_at : ℕ → List Constraint → Side → List ℕ → Bool
is_crowded_at n constraints side slots =
    nat_lt (length slots * (n / 2)) (sum_by (floor_of constraints side slots) (teams_of n))

abbrev pub is_crowded_by : ℕ → List Constraint → Class → Bool
is_crowded_by n constraints (Ca1 teams min max side slots) = is_crowded_at n constraints side slots
is_crowded_by n constraints class = false

-- whether the venue counts of a league are crowded: at the side and the slots of a hard CA1
abbrev pub are_crowded : Instance → Bool
are_crowded league = list_any (λ c. is_crowded_by league.n league.constraints c.class) (hard_of league.constraints)
