-- The bound rows of small leagues, worked out by hand.
use Rattle.std.proofs.Common.{◌≡◌, ℕ, ◌+◌, ◌-◌, [], ◌∷◌, List, length, map, drop, get_or, true, false, refl}
use Rattle.league.specs.Instance.{Instance}
use Rattle.league.specs.declared.class.Class.{Class}
use Rattle.league.specs.declared.class.Class.TheVariants.{Ca1, Ca2, Ca3, Ca4, Ga1, Br1, Br2, Fa2, Se1}
use Rattle.league.specs.declared.class.Constraint.{Constraint}
use Rattle.league.specs.declared.class.Side.TheVariants.{H, Both}
use Rattle.league.specs.declared.class.Span.TheVariants.{Every}
use Rattle.rows.specs.Cardinality.{at_least}
use Rattle.rows.specs.Literals.{no, yes}
use Rattle.rows.specs.Rows.{Row}
use Rattle.bound_rows.specs.BoundRows.{base_rows, base_vars, bound_rows, bound_size, bound_vars, league_groups}
use Rattle.bound_rows.specs.Parts.{parts_of}

-- a phased league of n teams with these constraints
abbrev league_with : ℕ → List Constraint → Instance
league_with n constraints = record { n = n; phased = true; constraints = constraints }

abbrev hard : Class → Constraint
hard class = record { hard = true; penalty = 1; class = class }

abbrev soft : ℕ → Class → Constraint
soft penalty class = record { hard = false; penalty = penalty; class = class }

-- the row with a number, from 1
abbrev row : ℕ → Instance → ℕ → Row
row k league bound = get_or (bound_rows league bound) (k - 1) (record { terms = []; degree = 0 })

abbrev units : Instance → List ℕ
units league = map (λ g. g.units) (league_groups league)

-- ---- two teams, the first of which is to be away in both slots: 30 rows and 8 variables beside

abbrev two : Instance
two = league_with 2 (soft 5 (Ca1 (0 ∷ []) 0 0 H (0 ∷ 1 ∷ [])) ∷ [])

pub two-vars : (base_vars two ≡ 8) × (bound_vars two ≡ 10)
two-vars = (refl, refl)

pub two-rows : (length (base_rows two) ≡ 30) × (length (bound_rows two 4) ≡ 33)
two-rows = (refl, refl)

pub two-softened : row 31 two 4 ≡ at_least 2 (no 5 ∷ no 6 ∷ yes 9 ∷ yes 10 ∷ [])
two-softened = refl

pub two-objective : row 32 two 4
    ≡ record { terms = record { coef = 5; lit = no 9 } ∷ record { coef = 5; lit = no 10 } ∷ []; degree = 6 }
two-objective = refl

pub two-order : row 33 two 4 ≡ at_least 1 (yes 9 ∷ no 10 ∷ [])
two-order = refl

-- a bound above all that the units cost: the row is there, and demands nothing
pub two-free : row 32 two 11
    ≡ record { terms = record { coef = 5; lit = no 9 } ∷ record { coef = 5; lit = no 10 } ∷ []; degree = 0 }
two-free = refl

pub two-size : bound_size two ≡ 60 + 4 + 2 + 2
two-size = refl

-- ---- SE1: the two meet in slots 0 and 1, and 3 slots are to be between: a unit for each number of slots

abbrev apart : ℕ → ℕ → Instance
apart n least = league_with n (soft 1 (Se1 (0 ∷ 1 ∷ []) least) ∷ [])

pub apart-units : (units (apart 2 3) ≡ 1 ∷ 1 ∷ 1 ∷ []) × (units (apart 2 0) ≡ [])
apart-units = (refl, refl)

pub apart-rows : length (bound_rows (apart 2 3) 2) ≡ 30 + 3 + 1
apart-rows = refl

-- the largest number comes first: windows of 4, of 3 and of 2 slots
pub apart-parts : parts_of 4 (Se1 (0 ∷ 1 ∷ []) 3)
    ≡ Se1 (0 ∷ 1 ∷ []) 3 ∷ Se1 (0 ∷ 1 ∷ []) 2 ∷ Se1 (0 ∷ 1 ∷ []) 1 ∷ []
apart-parts = refl

pub apart-windows : map (λ g. length g.rows) (league_groups (apart 4 3)) ≡ 3 ∷ 4 ∷ 5 ∷ []
apart-windows = refl

-- ---- both rows of a group share its units, as many as the larger degree

abbrev once : ℕ → ℕ → Instance
once least most = league_with 2 (soft 7 (Ga1 ((0, 1) ∷ []) least most (0 ∷ 1 ∷ [])) ∷ [])

pub once-both : (row 31 (once 2 0) 0 ≡ at_least 2 (yes 1 ∷ yes 2 ∷ yes 9 ∷ yes 10 ∷ []))
    × (row 32 (once 2 0) 0 ≡ at_least 2 (no 1 ∷ no 2 ∷ yes 9 ∷ yes 10 ∷ []))
once-both = (refl, refl)

-- a least number above the number of games
pub once-many : units (once 5 9) ≡ 5 ∷ []
once-many = refl

-- a least number of home games beside the most of them
pub least-both : (row 31 (league_with 2 (soft 5 (Ca1 (0 ∷ []) 2 1 H (0 ∷ 1 ∷ [])) ∷ [])) 0
    ≡ at_least 2 (yes 5 ∷ yes 6 ∷ yes 9 ∷ yes 10 ∷ []))
    × (row 32 (league_with 2 (soft 5 (Ca1 (0 ∷ []) 2 1 H (0 ∷ 1 ∷ [])) ∷ [])) 0
    ≡ at_least 1 (no 5 ∷ no 6 ∷ yes 9 ∷ yes 10 ∷ []))
least-both = (refl, refl)

-- rows that demand nothing have no units
pub met_always : (units (league_with 2 (soft 5 (Ca1 (0 ∷ []) 0 2 H (0 ∷ 1 ∷ [])) ∷ [])) ≡ 0 ∷ [])
    × (length (bound_rows (league_with 2 (soft 5 (Ca1 (0 ∷ []) 0 2 H (0 ∷ 1 ∷ [])) ∷ [])) 0) ≡ 31)
met_always = (refl, refl)

-- ---- keys: each team, each window of a team, each slot, each pair

pub keys-ca1 : parts_of 4 (Ca1 (0 ∷ 3 ∷ []) 0 1 H (0 ∷ 1 ∷ []))
    ≡ Ca1 (0 ∷ []) 0 1 H (0 ∷ 1 ∷ []) ∷ Ca1 (3 ∷ []) 0 1 H (0 ∷ 1 ∷ []) ∷ []
keys-ca1 = refl

pub keys-ca2 : parts_of 4 (Ca2 (0 ∷ 3 ∷ []) (1 ∷ []) 0 1 H (0 ∷ []))
    ≡ Ca2 (0 ∷ []) (1 ∷ []) 0 1 H (0 ∷ []) ∷ Ca2 (3 ∷ []) (1 ∷ []) 0 1 H (0 ∷ []) ∷ []
keys-ca2 = refl

pub keys-ca3 : parts_of 2 (Ca3 (0 ∷ 1 ∷ []) (0 ∷ []) 0 1 1 H)
    ≡ Ca2 (0 ∷ []) (0 ∷ []) 0 1 H (0 ∷ []) ∷ Ca2 (0 ∷ []) (0 ∷ []) 0 1 H (1 ∷ [])
    ∷ Ca2 (1 ∷ []) (0 ∷ []) 0 1 H (0 ∷ []) ∷ Ca2 (1 ∷ []) (0 ∷ []) 0 1 H (1 ∷ []) ∷ []
keys-ca3 = refl

pub units-ca3 : (units (league_with 4 (soft 1 (Ca3 (0 ∷ []) (1 ∷ 2 ∷ 3 ∷ []) 0 1 3 H) ∷ [])) ≡ 8 ∷ 8 ∷ 8 ∷ 8 ∷ [])
    × (units (league_with 2 (soft 1 (Ca3 (0 ∷ []) (1 ∷ []) 0 1 3 H) ∷ [])) ≡ [])
units-ca3 = (refl, refl)

pub units-ca4 : units (league_with 4 (soft 1 (Ca4 (0 ∷ []) (1 ∷ 2 ∷ []) 0 1 H Every (0 ∷ 5 ∷ [])) ∷ [])) ≡ 1 ∷ 1 ∷ []
units-ca4 = refl

-- all rows of a pair share one group
pub units-fa2 : units (league_with 4 (soft 1 (Fa2 (0 ∷ 1 ∷ 2 ∷ []) 1 (0 ∷ 1 ∷ 5 ∷ [])) ∷ [])) ≡ 5 ∷ 5 ∷ 5 ∷ []
units-fa2 = refl

pub units-br2 : units (league_with 4 (soft 1 (Br2 (0 ∷ 1 ∷ []) 2 (1 ∷ 2 ∷ [])) ∷ [])) ≡ 6 ∷ []
units-br2 = refl

-- ---- breaks that are paid for have variables, and none where they cost nothing

abbrev quiet : ℕ → Constraint
quiet penalty = soft penalty (Br1 (0 ∷ []) 0 Both (1 ∷ []))

pub breaks-vars : (base_vars (league_with 2 (quiet 3 ∷ [])) ≡ 12) × (base_vars (league_with 2 (quiet 0 ∷ [])) ≡ 8)
breaks-vars = (refl, refl)

pub breaks-row : row 43 (league_with 2 (quiet 3 ∷ [])) 0 ≡ at_least 2 (no 9 ∷ no 11 ∷ yes 13 ∷ yes 14 ∷ [])
breaks-row = refl

-- beside a hard one nothing is added
pub breaks-hard : base_vars (league_with 2 (quiet 3 ∷ hard (Br1 (0 ∷ []) 1 Both (1 ∷ [])) ∷ [])) ≡ 12
breaks-hard = refl

-- ---- several constraints: hard ones and those of penalty 0 have no units, which are numbered on

abbrev several : Instance
several = league_with 2 (soft 5 (Ca1 (0 ∷ []) 0 0 H (0 ∷ 1 ∷ [])) ∷ soft 0 (Ca1 (0 ∷ []) 0 0 H (0 ∷ 1 ∷ []))
    ∷ hard (Ca1 (1 ∷ []) 0 1 H (0 ∷ 1 ∷ [])) ∷ soft 4 (Ca1 (1 ∷ []) 0 0 H (1 ∷ [])) ∷ [])

pub several-tail : drop 31 (bound_rows several 6)
    ≡ at_least 2 (no 5 ∷ no 6 ∷ yes 9 ∷ yes 10 ∷ [])
    ∷ at_least 1 (no 8 ∷ yes 11 ∷ [])
    ∷ record {
      terms = record { coef = 5; lit = no 9 } ∷ record { coef = 5; lit = no 10 } ∷ record { coef = 4; lit = no 11 } ∷ [];
      degree = 8;
    }
    ∷ at_least 1 (yes 9 ∷ no 10 ∷ []) ∷ []
several-tail = refl
