-- Moves on the double round robin of four teams, and what is settled and compared.
use Rattle.std.proofs.Common.{◌≡◌, ℕ, ◌+◌, ◌==◌, true, false, [], ◌∷◌, map, length, refl, lit<}
use Rattle.league.specs.Counts.{Counts}
use Rattle.league.specs.Structure.{pairs_wrong, cells_wrong, phases_wrong}
use Rattle.league.proofs.DoubleFour.{four}
use Rattle.moves.specs.Closure.{closure, reached}
use Rattle.moves.specs.Moves.{IsLegal, do_meet, exchange, moved}
use Rattle.moves.specs.Neighbours.{all_moves, round_swap, team_swap}
use Rattle.descent.specs.Score.{is_lower}
use Rattle.descent.specs.declared.score.Score.{Score}

-- ---- the least closed set: from 1 each second number below 7; what is next to none stands alone

pub closure_second : closure (λ a b. b == a + 2) 7 1 ≡ 1 ∷ 3 ∷ 5 ∷ []
closure_second = refl

pub closure_alone : (closure (λ a b. false) 7 4 ≡ 4 ∷ []) × (reached (λ a b. b == a + 2) 7 1 1 ≡ 1 ∷ 3 ∷ [])
closure_alone = (refl, refl)

pub exchange_some : map (exchange 2 5) (2 ∷ 5 ∷ 3 ∷ []) ≡ 5 ∷ 2 ∷ 3 ∷ []
exchange_some = refl

-- ---- slots

abbrev wrongs : Counts → ℕ × ℕ × ℕ
wrongs m = (pairs_wrong 4 m, cells_wrong 4 m, phases_wrong 4 true m)

-- slots 0 and 3 hold the same pairs, with venues exchanged: a phased league takes their exchange too
pub round_swap-same_pairs : IsLegal 4 true four (round_swap (0, 3))
round_swap-same_pairs = record { own = lit< tt; round_robin = record { pairs = refl; cells = refl; phases = refl } }

-- slots 0 and 5 don't: 0 and 1, and 2 and 3, would meet twice in the first half, and 0 and 3, and 1 and 2, never
pub round_swap-other_pairs : (wrongs (moved 4 four (round_swap (0, 5))) ≡ (0, 0, 4))
    × IsLegal 4 false four (round_swap (0, 5))
round_swap-other_pairs = (
  refl,
  record { own = lit< tt; round_robin = record { pairs = refl; cells = refl; phases = refl } },
)

-- 0 and 1 meet in slots 2 and 5 alone; elsewhere their exchange makes 0 play for 1: (1,2,0) becomes (0,2,0)
pub team_swap-some : (map (do_meet four 0 1) (0 ∷ 2 ∷ 5 ∷ []) ≡ false ∷ true ∷ true ∷ [])
    × (map (λ j. moved 4 four (team_swap (0, 1)) 0 j 0) (1 ∷ 2 ∷ 3 ∷ []) ≡ 0 ∷ 1 ∷ 0 ∷ [])
    × (map (λ j. moved 4 four (team_swap (0, 1)) 0 j 2) (1 ∷ 2 ∷ 3 ∷ []) ≡ 1 ∷ 0 ∷ 0 ∷ [])
    × (wrongs (moved 4 four (team_swap (0, 1))) ≡ (0, 0, 0))
team_swap-some = (refl, refl, refl, refl)

-- ten teams: 45 home swaps, 153 round swaps, 45 team swaps, 10 * 153 and 45 * 18
pub all_moves-ten : length (all_moves 10) ≡ 2583
all_moves-ten = refl

-- ---- scores

abbrev score : ℕ → ℕ → Score
score a b = record { infeasibility = a; objective = b }

-- much less objective doesn't outweigh one unit of infeasibility
pub is_lower-some : (is_lower (score 3 1000) (score 4 0) ≡ true) × (is_lower (score 4 0) (score 3 1000) ≡ false)
    × (is_lower (score 0 0) (score 0 0) ≡ false)
is_lower-some = (refl, refl, refl)
