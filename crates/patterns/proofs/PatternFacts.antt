-- The patterns of the double round robin of four teams, and of its first half, a single round robin.
use Rattle.std.specs.Prelude.{◌≡◌, ◌≢◌, ℕ, ◌-◌, ◌<◌, zero, suc, List, [], ◌∷◌, map, refl}
use Rattle.std.proofs.Common.{arith}
use Rattle.std.proofs.lemmas.List.Elements.{All-cons, All-nil}
use Rattle.league.specs.Breaks.{all_breaks}
use Rattle.league.specs.Counts.{counts_of, slots_of, teams_of}
use Rattle.league.specs.Meetings.{games_of}
use Rattle.league.specs.Structure.{first_half}
use Rattle.league.specs.Venues.{games_on}
use Rattle.league.specs.declared.game.Game.{Game}
use Rattle.league.specs.declared.class.Side.TheVariants.{H, A, Both}
use Rattle.league.proofs.DoubleFour.{four, game}
use Rattle.circle_method.specs.SingleRoundRobin.{IsSingleGame, IsSingleRoundRobin}
use Rattle.patterns.specs.Pattern.{breaks_in}
use Rattle.patterns.specs.PatternSet.{canonical_patterns, pattern_of, patterns_of, side_with, team_breaks}

-- the patterns are AAHHHA, HHAAAH, AHAHAH and HAHAHA
pub patterns_of-four : patterns_of 4 four ≡ (A ∷ A ∷ H ∷ H ∷ H ∷ A ∷ []) ∷ (H ∷ H ∷ A ∷ A ∷ A ∷ H ∷ []) ∷ (A ∷ H ∷ A ∷ H ∷ A ∷ H ∷ []) ∷ (H ∷ A ∷ H ∷ A ∷ H ∷ A ∷ []) ∷ []
patterns_of-four = refl

-- with 3, 3, 0 and 0 breaks
pub breaks_in-four : (breaks_in (pattern_of 4 four 0) ≡ 3) × (breaks_in (pattern_of 4 four 1) ≡ 3) × (breaks_in (pattern_of 4 four 2) ≡ 0) × (breaks_in (pattern_of 4 four 3) ≡ 0)
breaks_in-four = (refl, refl, refl, refl)

-- the teams have 3, 3, 0 and 0 breaks in the season
pub team_breaks-four : team_breaks 4 four (slots_of 4) ≡ 3 ∷ 3 ∷ 0 ∷ 0 ∷ []
team_breaks-four = refl

-- at home where there is a home game: one, or more than one
pub side_with-some : (side_with 0 ≡ A) × (side_with 1 ≡ H) × (side_with 2 ≡ H)
side_with-some = (refl, refl, refl)

-- a pattern of no slot, or of one, has no break
pub breaks_in-short : (breaks_in [] ≡ 0) × (breaks_in (H ∷ []) ≡ 0)
breaks_in-short = (refl, refl)

-- the first half
abbrev pub half : List Game
half = game 3 0 0 ∷ game 1 2 0 ∷ game 1 3 1 ∷ game 2 0 1 ∷ game 3 2 2 ∷ game 0 1 2 ∷ []

-- the first half has 2 breaks, the fewest
pub all_breaks-half : all_breaks 4 (counts_of half) (teams_of 4) (first_half 4) ≡ 2
all_breaks-half = refl

half_pairs : (i j : ℕ) → i < j → j < 4 → games_of (counts_of half) ((i, j) ∷ (j, i) ∷ []) (first_half 4) ≡ 1
half_pairs zero (suc zero) h l = refl
half_pairs zero (suc (suc zero)) h l = refl
half_pairs zero (suc (suc (suc zero))) h l = refl
half_pairs (suc zero) (suc (suc zero)) h l = refl
half_pairs (suc zero) (suc (suc (suc zero))) h l = refl
half_pairs (suc (suc zero)) (suc (suc (suc zero))) h l = refl
half_pairs i j h l = absurd (omega arith)

half_cells : (i s : ℕ) → i < 4 → s < 4 - 1 → games_on 4 (counts_of half) Both i s ≡ 1
half_cells zero zero h l = refl
half_cells zero (suc zero) h l = refl
half_cells zero (suc (suc zero)) h l = refl
half_cells (suc zero) zero h l = refl
half_cells (suc zero) (suc zero) h l = refl
half_cells (suc zero) (suc (suc zero)) h l = refl
half_cells (suc (suc zero)) zero h l = refl
half_cells (suc (suc zero)) (suc zero) h l = refl
half_cells (suc (suc zero)) (suc (suc zero)) h l = refl
half_cells (suc (suc (suc zero))) zero h l = refl
half_cells (suc (suc (suc zero))) (suc zero) h l = refl
half_cells (suc (suc (suc zero))) (suc (suc zero)) h l = refl
half_cells i s h l = absurd (omega arith)

half_fits : (i j s : ℕ) → i < 4 → j < 4 → i ≢ j → s < 4 - 1 → IsSingleGame 4 (game i j s)
half_fits i j s here there differ slot = record { home = here; away = there; differ = differ; slot = slot }

-- the first half is a single round robin: the law isn't about nothing
pub half-is_single : IsSingleRoundRobin 4 half
half-is_single = record {
  fit =
      All-cons (IsSingleGame 4) (game 3 0 0) (game 1 2 0 ∷ game 1 3 1 ∷ game 2 0 1 ∷ game 3 2 2 ∷ game 0 1 2 ∷ []) (half_fits 3 0 0 (omega arith) (omega arith) (omega arith) (omega arith))
      (All-cons (IsSingleGame 4) (game 1 2 0) (game 1 3 1 ∷ game 2 0 1 ∷ game 3 2 2 ∷ game 0 1 2 ∷ []) (half_fits 1 2 0 (omega arith) (omega arith) (omega arith) (omega arith))
      (All-cons (IsSingleGame 4) (game 1 3 1) (game 2 0 1 ∷ game 3 2 2 ∷ game 0 1 2 ∷ []) (half_fits 1 3 1 (omega arith) (omega arith) (omega arith) (omega arith))
      (All-cons (IsSingleGame 4) (game 2 0 1) (game 3 2 2 ∷ game 0 1 2 ∷ []) (half_fits 2 0 1 (omega arith) (omega arith) (omega arith) (omega arith))
      (All-cons (IsSingleGame 4) (game 3 2 2) (game 0 1 2 ∷ []) (half_fits 3 2 2 (omega arith) (omega arith) (omega arith) (omega arith))
      (All-cons (IsSingleGame 4) (game 0 1 2) [] (half_fits 0 1 2 (omega arith) (omega arith) (omega arith) (omega arith)) (All-nil (IsSingleGame 4)))))));
  pairs = half_pairs;
  cells = half_cells;
}

-- the canonical patterns of four teams: the first halves of those above
pub canonical_patterns-four : canonical_patterns 4 ≡ (A ∷ A ∷ H ∷ []) ∷ (H ∷ H ∷ A ∷ []) ∷ (A ∷ H ∷ A ∷ []) ∷ (H ∷ A ∷ H ∷ []) ∷ []
canonical_patterns-four = refl

-- of six teams, from the games of the single circle schedule: slot 0 has 5-0, 1-4, 3-2; slot 1 has 1-5, 2-0, 4-3; slot
-- 2 has 5-2, 3-1, 0-4; slot 3 has 3-5, 4-2, 1-0; slot 4 has 5-4, 0-3, 2-1. Teams 4 and 5 have no break, the others one
-- each
pub canonical_patterns-six : canonical_patterns 6 ≡ (A ∷ A ∷ H ∷ A ∷ H ∷ []) ∷ (H ∷ H ∷ A ∷ H ∷ A ∷ []) ∷ (A ∷ H ∷ A ∷ A ∷ H ∷ []) ∷ (H ∷ A ∷ H ∷ H ∷ A ∷ []) ∷ (A ∷ H ∷ A ∷ H ∷ A ∷ []) ∷ (H ∷ A ∷ H ∷ A ∷ H ∷ []) ∷ []
canonical_patterns-six = refl

pub breaks_in-six : map breaks_in (canonical_patterns 6) ≡ 1 ∷ 1 ∷ 1 ∷ 1 ∷ 0 ∷ 0 ∷ []
breaks_in-six = refl

-- breaks on both sides: HHAAAH repeats at places 1, 3 and 4
pub breaks_in-both_sides : breaks_in (H ∷ H ∷ A ∷ A ∷ A ∷ H ∷ []) ≡ 3
breaks_in-both_sides = refl

-- two teams: one game, in the one slot
pub canonical_patterns-two : canonical_patterns 2 ≡ (A ∷ []) ∷ (H ∷ []) ∷ []
canonical_patterns-two = refl
