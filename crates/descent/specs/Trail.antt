-- Moves one after another, each of which lowers the score, and the same moves taken back.
use Rattle.std.specs.Prelude.{◌≡◌, ℕ, ◌+◌, ◌≤◌, Bool, true, List, [], ◌∷◌, length, reverse}
use Rattle.league.specs.Counts.{Counts}
use Rattle.league.specs.Structure.{IsRoundRobin}
use Rattle.moves.specs.Moves.{IsLegal, moved}
use Rattle.moves.specs.declared.swap.Swap.{Swap}
use Rattle.descent.specs.Lower.{is_lower}
use Rattle.descent.specs.Settled.{IsLowering}
use Rattle.descent.specs.declared.score.Score.{Score}

-- the moves lead from the first counts to the last, and each is legal and lowers the score
abbrev pub IsTrail : ℕ → Bool → (Counts → Score) → Counts → List Swap → Counts → Type 0
IsTrail n phased score first [] last = last ≡ first
IsTrail n phased score first (step ∷ trail) last =
    IsLowering n phased score first step × IsTrail n phased score (moved n first step) trail last

-- the moves lead from the first counts to the last, and each is legal and raises the score
abbrev pub IsClimb : ℕ → Bool → (Counts → Score) → Counts → List Swap → Counts → Type 0
IsClimb n phased score first [] last = last ≡ first
IsClimb n phased score first (step ∷ climb) last =
    IsLegal n phased first step
    × (is_lower (score first) (score (moved n first step)) ≡ true)
    × IsClimb n phased score (moved n first step) climb last

-- taken backwards, the moves of a trail lead back, and each is legal and raises the score
abbrev pub TrailsClimbBack : Type 0
TrailsClimbBack =
    (n : ℕ) (phased : Bool) (score : Counts → Score) (first last : Counts) (trail : List Swap)
    → IsRoundRobin n phased first
    → IsTrail n phased score first trail last
    → IsClimb n phased score last (reverse trail) first

-- where nothing is infeasible at the first, nothing is at the last, and each move lowers the objective
abbrev pub TrailsStayFeasible : Type 0
TrailsStayFeasible =
    (n : ℕ) (phased : Bool) (score : Counts → Score) (first last : Counts) (trail : List Swap)
    → (score first).infeasibility ≡ 0
    → IsTrail n phased score first trail last
    → ((score last).infeasibility ≡ 0) × (length trail + (score last).objective ≤ (score first).objective)
