-- Worked examples, so that a wrong definition does not check.
use Rattle.std.specs.Prelude.{map}
use Rattle.std.proofs.Common.{◌≡◌, ℕ, true, [], ◌∷◌, length, refl}
use Rattle.league.specs.Breaks.{all_breaks}
use Rattle.league.specs.Counts.{Counts, counts_of, slots_of, teams_of}
use Rattle.league.specs.Structure.{pairs_wrong, cells_wrong, phases_wrong, first_half}
use Rattle.league.specs.declared.game.Game.{Game}
use Rattle.circle_method.specs.Breaks.{HasFewBreaks}
use Rattle.circle_method.specs.Circle.{single_games, double_games}

abbrev numbers : Game → ℕ × ℕ × ℕ
numbers g = (g.home.0, g.away.0, g.slot.0)

abbrev four : Counts
four = counts_of (double_games 4)

abbrev six : Counts
six = counts_of (double_games 6)

pub single-two : map numbers (single_games 2) ≡ (1, 0, 0) ∷ []
single-two = refl

pub double-four : map numbers (double_games 4) ≡ (3, 0, 0) ∷ (1, 2, 0) ∷ (1, 3, 1) ∷ (2, 0, 1) ∷ (3, 2, 2) ∷ (0, 1, 2) ∷ (0, 3, 3) ∷ (2, 1, 3) ∷ (3, 1, 4) ∷ (0, 2, 4) ∷ (2, 3, 5) ∷ (1, 0, 5) ∷ []
double-four = refl

pub single-six : map numbers (single_games 6) ≡ (5, 0, 0) ∷ (1, 4, 0) ∷ (3, 2, 0) ∷ (1, 5, 1) ∷ (2, 0, 1) ∷ (4, 3, 1) ∷ (5, 2, 2) ∷ (3, 1, 2) ∷ (0, 4, 2) ∷ (3, 5, 3) ∷ (4, 2, 3) ∷ (1, 0, 3) ∷ (5, 4, 4) ∷ (0, 3, 4) ∷ (2, 1, 4) ∷ []
single-six = refl

pub length-double_six : length (double_games 6) ≡ 30
length-double_six = refl

-- each half has n - 2 breaks: those of the second are at its slots but the first
pub HasFewBreaks-four : HasFewBreaks 4 four
HasFewBreaks-four = record { first = refl; second = refl }

pub HasFewBreaks-six : HasFewBreaks 6 six
HasFewBreaks-six = record { first = refl; second = refl }

-- in the whole season two more: at the first slot of the second half teams 0 and 1 have one each
pub all_breaks-four : (all_breaks 4 four (teams_of 4) (slots_of 4) ≡ 6) × (all_breaks 4 four (0 ∷ 1 ∷ []) (3 ∷ []) ≡ 2)
all_breaks-four = (refl, refl)

-- the single schedule has the first half's games, and its breaks
pub all_breaks-single_six : all_breaks 6 (counts_of (single_games 6)) (teams_of 6) (first_half 6) ≡ 4
all_breaks-single_six = refl

pub wrongs-four : (pairs_wrong 4 four ≡ 0) × (cells_wrong 4 four ≡ 0) × (phases_wrong 4 true four ≡ 0)
wrongs-four = (refl, refl, refl)
