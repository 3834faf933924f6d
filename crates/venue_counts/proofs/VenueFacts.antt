-- Venue counts of four teams by hand: in k slots there are 2 k home games, and as many away.
use Rattle.std.proofs.Common.{◌≡◌, ℕ, ◌-◌, Bool, true, false, List, [], ◌∷◌, map, refl}
use Rattle.league.specs.Instance.{Instance}
use Rattle.league.specs.declared.class.Class.TheVariants.{Ca1}
use Rattle.league.specs.declared.class.Constraint.{Constraint}
use Rattle.league.specs.declared.class.Side.{Side}
use Rattle.league.specs.declared.class.Side.TheVariants.{H, A}
use Rattle.rows.specs.Cardinality.{at_least}
use Rattle.rows.specs.Literals.{no, yes}
use Rattle.encoding.specs.Encoding.{rows_of}
use Rattle.encoding.specs.Variables.{var_count}
use Rattle.refutation.specs.Steps.{Step}
use Rattle.refutation.specs.Steps.Step.{Clause, Linear}
use Rattle.refutation.specs.Verdict.{verdict_of}
use Rattle.refutation.specs.declared.step.Part.{Part}
use Rattle.refutation.specs.declared.verdict.Cause.TheVariants.{NoConflict}
use Rattle.refutation.specs.declared.verdict.Verdict.TheVariants.{Accepted, Rejected}
use Rattle.venue_counts.specs.CountLogs.{counted_rows}
use Rattle.venue_counts.specs.VenueCounts.{are_crowded, are_short, bound_of, floor_of}

abbrev all : List ℕ
all = 0 ∷ 1 ∷ 2 ∷ 3 ∷ []

abbrev three_slots : List ℕ
three_slots = 0 ∷ 1 ∷ 2 ∷ []

-- from min to max games of some teams on a side in some slots
abbrev ca1 : Bool → List ℕ → ℕ → ℕ → Side → List ℕ → Constraint
ca1 hard teams min max side slots =
    record { hard = hard; penalty = 1; class = Ca1 teams min max side slots }

abbrev at_most : List ℕ → ℕ → Side → List ℕ → Constraint
at_most teams max side slots = ca1 true teams 0 max side slots

abbrev four : List Constraint → Instance
four constraints = record { n = 4; phased = true; constraints = constraints }

-- 4 home games are allowed and 6 are played
pub one_each : are_short (four (at_most all 1 H three_slots ∷ [])) ≡ true
one_each = refl

-- 4 are allowed and 4 are played
pub enough : are_short (four (at_most all 1 H (0 ∷ 1 ∷ []) ∷ [])) ≡ false
enough = refl

-- 4 away games are allowed and 4 are played
pub one_away_each : are_short (four (at_most all 1 A three_slots ∷ [])) ≡ true
one_away_each = refl

-- a team without a bound may be at home in each slot: 3 + 3 + 1 + 1, and 3 + 0 + 1 + 1
pub two_teams : are_short (four (at_most (2 ∷ 3 ∷ []) 1 H three_slots ∷ [])) ≡ false
two_teams = refl

pub three_teams : are_short (four (at_most (2 ∷ 3 ∷ []) 1 H three_slots ∷ at_most (1 ∷ []) 0 H three_slots ∷ [])) ≡ true
three_teams = refl

-- one bound more is 6
pub three_teams_enough : are_short (four (at_most (1 ∷ 2 ∷ 3 ∷ []) 1 H three_slots ∷ [])) ≡ false
three_teams_enough = refl

-- only the same side and exactly the same slots count together, and no soft constraint
pub other_side : are_short
    (four (at_most (2 ∷ 3 ∷ []) 1 H three_slots ∷ at_most (1 ∷ []) 0 A three_slots ∷ [])) ≡ false
other_side = refl

pub other_slots : are_short
    (four (at_most (2 ∷ 3 ∷ []) 1 H three_slots ∷ at_most (1 ∷ []) 0 H (0 ∷ 1 ∷ 3 ∷ []) ∷ [])) ≡ false
other_slots = refl

pub soft : are_short
    (four (at_most (2 ∷ 3 ∷ []) 1 H three_slots ∷ ca1 false (1 ∷ []) 0 0 H three_slots ∷ [])) ≡ false
soft = refl

-- the least bound counts, and none above the number of slots
pub least : map
    (bound_of
    (at_most all 2 A three_slots ∷ at_most (1 ∷ []) 1 A three_slots ∷ at_most all 9 A three_slots ∷ []) A three_slots)
    all
    ≡ 2 ∷ 1 ∷ 2 ∷ 2 ∷ []
least = refl

pub no_more_than_slots : map (bound_of (at_most (0 ∷ 1 ∷ []) 9 H three_slots ∷ []) H three_slots) all
    ≡ 3 ∷ 3 ∷ 3 ∷ 3 ∷ []
no_more_than_slots = refl

-- a lower bound allows nothing more or less
pub lower_bound : are_short (four (ca1 true all 3 6 A three_slots ∷ [])) ≡ false
lower_bound = refl

-- of no slots there are no games
pub no_slots : are_short (four (at_most all 0 H [] ∷ [])) ≡ false
no_slots = refl

-- ---- too many

-- 12 away games are asked for and 6 are played
pub three_each : are_crowded (four (ca1 true all 3 6 A three_slots ∷ [])) ≡ true
three_each = refl

-- 6 are asked for, and 7
pub as_many : are_crowded (four (ca1 true (0 ∷ 1 ∷ 2 ∷ []) 2 3 H three_slots ∷ [])) ≡ false
as_many = refl

pub one_too_many : are_crowded
    (four (ca1 true (0 ∷ 1 ∷ 2 ∷ []) 2 3 H three_slots ∷ ca1 true (3 ∷ []) 1 3 H three_slots ∷ [])) ≡ true
one_too_many = refl

pub most : map
    (floor_of
    (ca1 true all 1 3 H three_slots ∷ ca1 true (1 ∷ []) 2 3 H three_slots ∷ ca1 false all 3 3 H three_slots ∷ [])
    H three_slots)
    all
    ≡ 1 ∷ 2 ∷ 1 ∷ 1 ∷ []
most = refl

-- ---- the log

-- what is added up: in each slot two of four teams are at home, and a team is away in two of the three
pub rows : counted_rows 4 true (0 ∷ 1 ∷ []) (λ i. 1 - i)
    ≡ at_least 2 (yes 73 ∷ yes 79 ∷ yes 85 ∷ yes 91 ∷ [])
    ∷ at_least 2 (yes 74 ∷ yes 80 ∷ yes 86 ∷ yes 92 ∷ [])
    ∷ at_least 1 (no 73 ∷ no 74 ∷ [])
    ∷ []
rows = refl

abbrev parts_of : List ℕ → List Part
parts_of numbers = map (λ number. record { factor = 1; row = number }) numbers

abbrev steps_of : List ℕ → List Step
steps_of numbers = Linear (parts_of numbers) 1 ∷ Clause [] (157 ∷ []) ∷ []

abbrev once_at_home : Instance
once_at_home = four (at_most all 1 H three_slots ∷ [])

-- the rows of the slots 0 to 2 are 133, 135 and 137, those of the teams 153 to 156
pub accepted : verdict_of (rows_of once_at_home) (var_count once_at_home)
    (steps_of (133 ∷ 135 ∷ 137 ∷ 153 ∷ 154 ∷ 155 ∷ 156 ∷ []))
    ≡ Accepted
accepted = refl

-- without slot 2 the sum isn't in conflict
pub slot_missing : verdict_of (rows_of once_at_home) (var_count once_at_home)
    (steps_of (133 ∷ 135 ∷ 153 ∷ 154 ∷ 155 ∷ 156 ∷ []))
    ≡ Rejected 2 NoConflict
slot_missing = refl
