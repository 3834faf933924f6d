-- Where the rows of constraints begin in small leagues. Four teams have 152 rows of a phased season, and 120 of breaks.
use Rattle.std.proofs.Common.{◌≡◌, List, [], ◌∷◌, Bool, true, false, map, refl}
use Rattle.std.specs.Prelude.{length}
use Rattle.league.specs.Instance.{Instance}
use Rattle.league.specs.declared.class.Class.{Class}
use Rattle.league.specs.declared.class.Class.TheVariants.{Ca1, Br1, Ga1}
use Rattle.league.specs.declared.class.Constraint.{Constraint}
use Rattle.league.specs.declared.class.Side.TheVariants.{H, Both}
use Rattle.league.proofs.DoubleFour.{all_slots, all_teams}
use Rattle.rows.specs.Cardinality.{at_least}
use Rattle.rows.specs.Literals.{yes, no}
use Rattle.encoding.specs.RowRanges.{first_rows, rows_of_constraint}

abbrev constraint : Bool → Class → Constraint
constraint hard class = record { hard = hard; penalty = 1; class = class }

-- four teams with these constraints
abbrev four : List Constraint → Instance
four constraints = record { n = 4; phased = true; constraints = constraints }

-- no home game at slot 0: a row for each team
abbrev away_first : Class
away_first = Ca1 all_teams 0 0 H (0 ∷ [])

-- at most no game of no meetings: no row
abbrev no_games : Class
no_games = Ga1 [] 0 0 all_slots

-- seven home games of team 0: one row
abbrev seven_home : Class
seven_home = Ca1 (0 ∷ []) 7 7 H all_slots

-- a hard constraint, a soft one, one without rows, and another one
abbrev mixed : Instance
mixed = four
    (constraint true away_first ∷ constraint false away_first ∷ constraint true no_games ∷ constraint true seven_home
    ∷ [])

pub mixed-first_rows : first_rows mixed ≡ 152 ∷ 156 ∷ 156 ∷ 156 ∷ 157 ∷ []
mixed-first_rows = refl

pub mixed-lengths : map (λ k. length (rows_of_constraint mixed k)) (0 ∷ 1 ∷ 2 ∷ 3 ∷ 4 ∷ []) ≡ 4 ∷ 0 ∷ 0 ∷ 1 ∷ 0 ∷ []
mixed-lengths = refl

pub mixed-first : rows_of_constraint mixed 0
    ≡ at_least 1 (no 73 ∷ []) ∷ at_least 1 (no 79 ∷ []) ∷ at_least 1 (no 85 ∷ []) ∷ at_least 1 (no 91 ∷ []) ∷ []
mixed-first = refl

pub mixed-last : rows_of_constraint mixed 3
    ≡ at_least 7 (yes 73 ∷ yes 74 ∷ yes 75 ∷ yes 76 ∷ yes 77 ∷ yes 78 ∷ []) ∷ []
mixed-last = refl

-- the rows of breaks stand before those of all constraints, also where the one that bounds breaks is the last
pub breaks-first_rows : first_rows (four (constraint true away_first ∷ constraint true (Br1 [] 0 Both []) ∷ []))
    ≡ 272 ∷ 276 ∷ 276 ∷ []
breaks-first_rows = refl

-- a soft constraint of breaks has no rows, and no variables
pub soft-first_rows : first_rows (four (constraint false (Br1 all_teams 0 Both all_slots) ∷ [])) ≡ 152 ∷ 152 ∷ []
soft-first_rows = refl

pub none-first_rows : first_rows (four []) ≡ 152 ∷ []
none-first_rows = refl
