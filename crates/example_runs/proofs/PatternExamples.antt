-- Home-away patterns and venue counts, and a slot of the circle of eight teams.
use Rattle.std.proofs.Common.{◌≡◌, ℕ, true, false, List, [], ◌∷◌, map}
use Rattle.std.proofs.Common.{refl}
use Rattle.league.specs.Counts.{counts_of, slots_of}
use Rattle.league.specs.Instance.{Instance}
use Rattle.league.specs.declared.class.Class.TheVariants.{Ca1}
use Rattle.league.specs.declared.class.Constraint.{Constraint}
use Rattle.league.specs.declared.class.Side.{Side}
use Rattle.league.specs.declared.class.Side.TheVariants.{H, A}
use Rattle.league.proofs.DoubleFour.{game}
use Rattle.circle_method.specs.Circle.{return_game, slot_games}
use Rattle.patterns.specs.Pattern.{breaks_in}
use Rattle.patterns.specs.PatternSet.{pattern_of, team_breaks}
use Rattle.venue_counts.specs.VenueCounts.{are_crowded, are_short, bound_of, floor_of}

-- ---- the circle of eight: in slot 3 team 7 is away to team 3, and 3 + k meets 3 - k, counted round seven

pub circle_eight : slot_games 8 3 ≡ game 3 7 3 ∷ game 4 2 3 ∷ game 1 5 3 ∷ game 6 0 3 ∷ []
circle_eight = refl

pub return_eight : return_game 8 (game 1 5 3) ≡ game 5 1 10
return_eight = refl

-- ---- patterns

-- places 1, 2 and 4 repeat the letter before them
pub breaks_six : breaks_in (H ∷ H ∷ H ∷ A ∷ A ∷ H ∷ []) ≡ 3
breaks_six = refl

-- two teams that play both their games in slot 0: each is at home there, though also away, and counts as away in slot 1
pub patterns_crowded : (map (pattern_of 2 (counts_of (game 0 1 0 ∷ game 1 0 0 ∷ []))) (0 ∷ 1 ∷ [])
    ≡ (H ∷ A ∷ []) ∷ (H ∷ A ∷ []) ∷ [])
    × (team_breaks 2 (counts_of (game 0 1 0 ∷ game 1 0 0 ∷ [])) (slots_of 2) ≡ 0 ∷ 0 ∷ [])
patterns_crowded = (refl, refl)

-- played again in slot 1, each has a home break and an away break there, where its pattern has one break
pub breaks_crowded : (team_breaks 2 (counts_of (game 0 1 0 ∷ game 1 0 0 ∷ game 0 1 1 ∷ game 1 0 1 ∷ [])) (slots_of 2) ≡ 2 ∷ 2 ∷ [])
    × (breaks_in (pattern_of 2 (counts_of (game 0 1 0 ∷ game 1 0 0 ∷ game 0 1 1 ∷ game 1 0 1 ∷ [])) 0) ≡ 1)
breaks_crowded = (refl, refl)

-- ---- venue counts: six teams have three games in slot 4

abbrev slot_4 : ℕ → List ℕ → ℕ → ℕ → Side → Constraint
slot_4 penalty teams min max side = record { hard = true; penalty = penalty; class = Ca1 teams min max side (4 ∷ []) }

abbrev six : List Constraint → Instance
six constraints = record { n = 6; phased = false; constraints = constraints }

-- four teams that may not be away leave two that may; three leave three
pub short_away : (are_short (six (slot_4 0 (0 ∷ 1 ∷ 2 ∷ 3 ∷ []) 0 0 A ∷ [])) ≡ true)
    × (are_short (six (slot_4 0 (0 ∷ 1 ∷ 2 ∷ []) 0 0 A ∷ [])) ≡ false)
short_away = (refl, refl)

-- four teams that have to be at home are too many; they can't be shown so by what they may
pub crowded_home : (are_crowded (six (slot_4 1 (0 ∷ 1 ∷ 2 ∷ 3 ∷ []) 1 1 H ∷ [])) ≡ true)
    × (are_short (six (slot_4 1 (0 ∷ 1 ∷ 2 ∷ 3 ∷ []) 1 1 H ∷ [])) ≡ false)
crowded_home = (refl, refl)

-- a floor may be above the number of slots: one team's 4 of one slot are more than there are, 3 aren't, though no team
-- plays so often; the counts are sums over all teams
pub crowded_alone : map (λ min. are_crowded (six (slot_4 1 (5 ∷ []) min 9 H ∷ []))) (3 ∷ 4 ∷ []) ≡ false ∷ true ∷ []
crowded_alone = refl

-- the least number above the greatest: each counts for itself
pub crossed : (bound_of (slot_4 1 (5 ∷ []) 3 0 H ∷ []) H (4 ∷ []) 5 ≡ 0)
    × (floor_of (slot_4 1 (5 ∷ []) 3 0 H ∷ []) H (4 ∷ []) 5 ≡ 3)
crossed = (refl, refl)
