-- Worked values on the canonical double round robin of four teams, so that a wrong definition does not check.
use Rattle.std.proofs.Common.{◌≡◌, ℕ, true, false, List, [], ◌∷◌, refl, lit<}
use Rattle.league.proofs.DoubleFour.{four}
use Rattle.rule_core.specs.declared.rule.Entries.{Ghosts}
use Rattle.moves.specs.Moves.{moved}
use Rattle.moves.specs.Neighbours.{home_swap}
use Rattle.descent.specs.declared.weighted.Weighted.{Weighted}
use Rattle.descent.specs.Score.{IsNoWorse, is_lower, score_on}
use Rattle.descent.specs.Settled.{IsLowering, IsSettled}
use Rattle.descent.specs.Trail.{IsClimb, IsTrail}
use Rattle.descent.specs.declared.score.Score.{Score}

abbrev score : ℕ → ℕ → Score
score a b = record { infeasibility = a; objective = b }

-- the infeasibility is compared first
pub is_lower-hard : is_lower (score 0 9) (score 1 0) ≡ true
is_lower-hard = refl

pub is_lower-not_soft : is_lower (score 1 0) (score 0 9) ≡ false
is_lower-not_soft = refl

pub is_lower-soft : is_lower (score 2 3) (score 2 4) ≡ true
is_lower-soft = refl

-- an equal score isn't lower, and no worse
pub is_lower-equal : is_lower (score 2 3) (score 2 3) ≡ false
is_lower-equal = refl

pub no_worse-equal : IsNoWorse (score 2 3) (score 2 3)
no_worse-equal = refl

-- a hard rule of penalty 10 and a soft one of penalty 3, whose one entry is how often team 0 is away to team 3 in slot
-- 0
abbrev one_entry : Ghosts ℕ
one_entry = record { team_count = λ r. 4; term_count = λ r. 1; reach_of = λ r. 1; entry = λ r k m. m 3 0 0; touches = λ r g. 0 ∷ []; watched = λ r t. true }

abbrev weights : List (Weighted ℕ)
weights = record { rule = 0; hard = true; penalty = 10 } ∷ record { rule = 0; hard = false; penalty = 3 } ∷ []

pub score_on-four : score_on one_entry weights four ≡ score 10 3
score_on-four = refl

-- team 0 is away to team 3 in slot 0: their home swap is a legal move that lowers the score, to nothing
pub home_swap-lowers : IsLowering 4 true (score_on one_entry weights) four (home_swap (0, 3))
home_swap-lowers = record {
  of_league = (lit< tt, lit< tt);
  legal = record { own = lit< tt; round_robin = record { pairs = refl; cells = refl; phases = refl } };
  lower = refl;
}

pub home_swap-score : score_on one_entry weights (moved 4 four (home_swap (0, 3))) ≡ score 0 0
home_swap-score = refl

-- the season isn't settled, and the home swap is a trail
pub four-not_settled : IsSettled 4 true (score_on one_entry weights) four → ⊥
four-not_settled settled = settled (home_swap (0, 3)) home_swap-lowers

pub home_swap-trail : IsTrail 4 true (score_on one_entry weights) four (home_swap (0, 3) ∷ []) (moved 4 four (home_swap (0, 3)))
home_swap-trail = (home_swap-lowers, refl)

-- the home swap once more raises the score, and leads to a season in which it can be made again
pub home_swap-climbs : IsClimb 4 true (score_on one_entry weights) (moved 4 four (home_swap (0, 3))) (home_swap (0, 3) ∷ []) (moved 4 (moved 4 four (home_swap (0, 3))) (home_swap (0, 3)))
home_swap-climbs = (record { own = lit< tt; round_robin = record { pairs = refl; cells = refl; phases = refl } }, refl, refl)

-- a move that changes neither lowers nothing
pub other-not_lowering : IsLowering 4 true (score_on one_entry weights) four (home_swap (1, 2)) → ⊥
other-not_lowering lowers = let equal : false ≡ true = lowers.lower in cc

-- where nothing costs anything, the season is settled
pub free-settled : IsSettled 4 true (λ m. score 0 0) four
free-settled step lowers = let equal : false ≡ true = lowers.lower in cc
