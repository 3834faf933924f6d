-- Moves that better a double round robin, and those that none betters. A score says what counts cost.
use Rattle.std.specs.Prelude.{◌≡◌, ℕ, Bool, true}
use Rattle.league.specs.Counts.{Counts}
use Rattle.moves.specs.Moves.{IsLegal, IsOfLeague, moved}
use Rattle.moves.specs.declared.swap.Swap.{Swap}
use Rattle.descent.specs.Lower.{is_lower}
use Rattle.descent.specs.declared.score.Score.{Score}

-- a legal move that lowers the score
pub record IsLowering (n : ℕ) (phased : Bool) (score : Counts → Score) (m : Counts) (step : Swap) : Type 0 where
  pub of_league : IsOfLeague n step
  pub legal : IsLegal n phased m step
  pub lower : is_lower (score (moved n m step)) (score m) ≡ true

-- no legal move, of whatever kind and of whatever teams and slots, lowers the score
abbrev pub IsSettled : ℕ → Bool → (Counts → Score) → Counts → Type 0
IsSettled n phased score m = (step : Swap) → IsLowering n phased score m step → ⊥
