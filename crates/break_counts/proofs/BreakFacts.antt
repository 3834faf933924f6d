-- Break counts by hand. In each half of a phased league of n teams n - 2 of them have a break, and in the season of a
-- league without phases too.
use Rattle.std.proofs.Common.{◌≡◌, ℕ, Bool, true, false, List, [], ◌∷◌, refl}
use Rattle.league.specs.Instance.{Instance}
use Rattle.league.specs.declared.class.Class.TheVariants.{Br1, Br2}
use Rattle.league.specs.declared.class.Constraint.{Constraint}
use Rattle.league.specs.declared.class.Side.{Side}
use Rattle.league.specs.declared.class.Side.TheVariants.{H, A, Both}
use Rattle.break_counts.specs.BreakCounts.{allowed_of, are_few, later_slots, stretch}

-- at most so many breaks of these teams together
abbrev br2 : Bool → List ℕ → ℕ → List ℕ → Constraint
br2 hard teams intp slots = record { hard = hard; penalty = 1; class = Br2 teams intp slots }

-- at most so many breaks of each of these teams
abbrev br1 : List ℕ → ℕ → Side → List ℕ → Constraint
br1 teams intp side slots = record { hard = true; penalty = 1; class = Br1 teams intp side slots }

-- ---- four teams: slots 0 to 5, halves 0 to 2 and 3 to 5

abbrev all : List ℕ
all = 0 ∷ 1 ∷ 2 ∷ 3 ∷ []

abbrev season : List ℕ
season = 0 ∷ 1 ∷ 2 ∷ 3 ∷ 4 ∷ 5 ∷ []

abbrev phased : List Constraint → Instance
phased constraints = record { n = 4; phased = true; constraints = constraints }

abbrev unphased : List Constraint → Instance
unphased constraints = record { n = 4; phased = false; constraints = constraints }

-- a break counts at slots 1 and 2 of the first half, 4 and 5 of the second
first_half : later_slots (stretch 0 3) ≡ 1 ∷ 2 ∷ []
first_half = refl

second_half : later_slots (stretch 3 3) ≡ 4 ∷ 5 ∷ []
second_half = refl

-- 4 breaks are needed in the season, and 3 are allowed
pub three : are_few (phased (br2 true all 3 season ∷ [])) ≡ true
three = refl

pub four : are_few (phased (br2 true all 4 season ∷ [])) ≡ false
four = refl

-- 2 breaks are needed in a half
pub one_at_first : are_few (phased (br2 true all 1 (1 ∷ 2 ∷ []) ∷ [])) ≡ true
one_at_first = refl

pub one_later : are_few (phased (br2 true all 1 (4 ∷ 5 ∷ []) ∷ [])) ≡ true
one_later = refl

pub two_later : are_few (phased (br2 true all 2 (4 ∷ 5 ∷ []) ∷ [])) ≡ false
two_later = refl

-- slot 2 may have any number of breaks, and slot 3 is the first of its half
pub not_covered : are_few (phased (br2 true all 0 (1 ∷ 3 ∷ 4 ∷ []) ∷ [])) ≡ false
not_covered = refl

-- without phases 2 breaks are needed in the season
pub one_in_season : are_few (unphased (br2 true all 1 (1 ∷ 2 ∷ 3 ∷ 4 ∷ 5 ∷ []) ∷ [])) ≡ true
one_in_season = refl

pub two_in_season : are_few (unphased (br2 true all 2 season ∷ [])) ≡ false
two_in_season = refl

pub none_in_a_half : are_few (unphased (br2 true all 0 (1 ∷ 2 ∷ []) ∷ [])) ≡ false
none_in_a_half = refl

-- what is soft doesn't count
pub soft : are_few (phased (br2 false all 0 season ∷ [])) ≡ false
soft = refl

-- ---- some of the teams

-- of three teams one needs a break in each half
pub three_teams : are_few (phased (br2 true (0 ∷ 1 ∷ 3 ∷ []) 0 (4 ∷ 5 ∷ []) ∷ [])) ≡ true
three_teams = refl

pub three_teams_enough : are_few (phased (br2 true (0 ∷ 1 ∷ 3 ∷ []) 1 (4 ∷ 5 ∷ []) ∷ [])) ≡ false
three_teams_enough = refl

pub three_teams_in_season : are_few (phased (br2 true (0 ∷ 1 ∷ 3 ∷ []) 1 season ∷ [])) ≡ true
three_teams_in_season = refl

-- two teams may have none
pub two_teams : are_few (phased (br2 true (0 ∷ 1 ∷ []) 0 season ∷ [])) ≡ false
two_teams = refl

-- ---- single teams

pub none_of_three : are_few (phased (br1 (0 ∷ 1 ∷ 3 ∷ []) 0 Both (1 ∷ 2 ∷ []) ∷ [])) ≡ true
none_of_three = refl

pub none_of_two : are_few (phased (br1 (0 ∷ 1 ∷ []) 0 Both season ∷ [])) ≡ false
none_of_two = refl

pub one_each : are_few (phased (br1 all 1 Both (1 ∷ 2 ∷ []) ∷ [])) ≡ false
one_each = refl

-- one break a season for each of four teams is 4, which is enough
pub one_each_in_season : are_few (phased (br1 all 1 Both season ∷ [])) ≡ false
one_each_in_season = refl

-- one for three and none for one is 3
pub three_in_season : are_few (phased (br1 all 1 Both season ∷ br1 (2 ∷ []) 0 Both season ∷ [])) ≡ true
three_in_season = refl

-- home breaks alone, or away breaks alone, say nothing; both say as much as one bound of both
pub home_alone : are_few (phased (br1 all 0 H season ∷ [])) ≡ false
home_alone = refl

pub home_and_away : are_few (phased (br1 (0 ∷ 1 ∷ 3 ∷ []) 0 H season ∷ br1 all 0 A (1 ∷ 2 ∷ []) ∷ [])) ≡ true
home_and_away = refl

-- the least bound counts, and a bound of 7 allows no more than one break a stretch
pub least : allowed_of (br1 (0 ∷ []) 1 Both season ∷ br1 all 7 Both season ∷ []) (stretch 0 3 ∷ stretch 3 3 ∷ []) 0 ≡ 1
least = refl

pub most : allowed_of (br1 all 7 Both season ∷ []) (stretch 0 3 ∷ stretch 3 3 ∷ []) 0 ≡ 2
most = refl

-- home and away bounds of 1 each allow 2
pub of_sides : allowed_of (br1 all 0 H season ∷ br1 all 1 A season ∷ []) (stretch 0 3 ∷ stretch 3 3 ∷ []) 2 ≡ 1
of_sides = refl

-- two teams together and a third alone
pub together_and_alone : are_few (phased (br2 true (0 ∷ 1 ∷ []) 0 season ∷ br1 (3 ∷ []) 0 Both (4 ∷ 5 ∷ []) ∷ [])) ≡ true
together_and_alone = refl

pub together_and_free : are_few (phased (br2 true (0 ∷ 1 ∷ []) 0 season ∷ br1 (3 ∷ []) 1 Both (4 ∷ 5 ∷ []) ∷ [])) ≡ false
together_and_free = refl
