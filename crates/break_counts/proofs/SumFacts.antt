-- Bounds that are added up, by hand: four teams in two phases. In the first half, whose breaks count at slots 1 and 2,
-- two breaks are needed.
use Rattle.std.proofs.Common.{◌≡◌, ℕ, Bool, true, false, List, [], ◌∷◌, refl}
use Rattle.league.specs.Instance.{Instance}
use Rattle.league.specs.declared.class.Class.TheVariants.{Br1, Br2}
use Rattle.league.specs.declared.class.Constraint.{Constraint}
use Rattle.league.specs.declared.class.Side.{Side}
use Rattle.league.specs.declared.class.Side.TheVariants.{H, Both}
use Rattle.break_counts.specs.BreakCounts.{are_few}
use Rattle.break_counts.specs.Sums.{are_few_together}
use Rattle.break_counts.specs.declared.together.Summand.{Summand}

abbrev all : List ℕ
all = 0 ∷ 1 ∷ 2 ∷ 3 ∷ []

abbrev league : List Constraint → Instance
league constraints = record { n = 4; phased = true; constraints = constraints }

abbrev br2 : Bool → List ℕ → ℕ → List ℕ → Constraint
br2 hard teams intp slots = record { hard = hard; penalty = 1; class = Br2 teams intp slots }

abbrev br1 : List ℕ → ℕ → Side → List ℕ → Constraint
br1 teams intp side slots = record { hard = true; penalty = 1; class = Br1 teams intp side slots }

-- the bound of the constraint at a place, of this team if it is a BR1
abbrev at : ℕ → ℕ → Summand
at place team = record { place = place; team = team }

-- ---- slot by slot

-- one break at slot 1 and none at slot 2 are one, and neither bound alone says anything
abbrev one_and_none : Instance
one_and_none = league (br2 true all 1 (1 ∷ []) ∷ br2 true all 0 (2 ∷ []) ∷ [])

pub together : are_few_together one_and_none (at 0 0 ∷ at 1 0 ∷ []) ≡ true
together = refl

pub alone : are_few one_and_none ≡ false
alone = refl

pub half_counted : are_few_together one_and_none (at 1 0 ∷ []) ≡ false
half_counted = refl

-- a bound that is taken twice allows twice as much
pub twice : are_few_together one_and_none (at 0 0 ∷ at 0 0 ∷ at 1 0 ∷ []) ≡ false
twice = refl

-- there is no constraint at place 2
pub no_such_place : are_few_together one_and_none (at 2 0 ∷ []) ≡ false
no_such_place = refl

pub one_and_one : are_few_together (league (br2 true all 1 (1 ∷ []) ∷ br2 true all 1 (2 ∷ []) ∷ [])) (at 0 0 ∷ at 1 0 ∷ [])
    ≡ false
one_and_one = refl

pub soft : are_few_together (league (br2 true all 1 (1 ∷ []) ∷ br2 false all 0 (2 ∷ []) ∷ [])) (at 0 0 ∷ at 1 0 ∷ [])
    ≡ false
soft = refl

-- in both halves four are needed: two are allowed at slots 1 and 4, and one at slots 2 and 5
pub both_halves : are_few_together
    (league (br2 true all 2 (1 ∷ 4 ∷ []) ∷ br2 true all 1 (2 ∷ 5 ∷ []) ∷ []))
    (at 0 0 ∷ at 1 0 ∷ [])
    ≡ true
both_halves = refl

-- ---- some teams and others

pub two_and_two : are_few_together
    (league (br2 true (0 ∷ 1 ∷ []) 0 (1 ∷ 2 ∷ []) ∷ br2 true (2 ∷ 3 ∷ []) 1 (1 ∷ 2 ∷ []) ∷ []))
    (at 0 0 ∷ at 1 0 ∷ [])
    ≡ true
two_and_two = refl

-- team 3 is in no bound, and may have a break
pub all_but_one : are_few_together
    (league (br2 true (0 ∷ 1 ∷ []) 0 (1 ∷ 2 ∷ []) ∷ br2 true (2 ∷ []) 1 (1 ∷ 2 ∷ []) ∷ []))
    (at 0 0 ∷ at 1 0 ∷ [])
    ≡ false
all_but_one = refl

-- ---- single teams

-- no team has a break at slot 1, and all together one at slot 2
abbrev each_and_one : Side → Instance
each_and_one side = league (br1 all 0 side (1 ∷ []) ∷ br2 true all 1 (2 ∷ []) ∷ [])

pub each_team : are_few_together (each_and_one Both) (at 0 0 ∷ at 0 1 ∷ at 0 2 ∷ at 0 3 ∷ at 1 0 ∷ []) ≡ true
each_team = refl

-- what isn't named isn't counted: team 3 may have a break
pub three_teams : are_few_together (each_and_one Both) (at 0 0 ∷ at 0 1 ∷ at 0 2 ∷ at 1 0 ∷ []) ≡ false
three_teams = refl

pub home_breaks : are_few_together (each_and_one H) (at 0 0 ∷ at 0 1 ∷ at 0 2 ∷ at 0 3 ∷ at 1 0 ∷ []) ≡ false
home_breaks = refl
