-- Trails: one move more, and what stays along them.
use Rattle.std.proofs.Common.{◌≡◌, ℕ, Bool, List, [], ◌∷◌, ◌++◌, ap, sym, subst, arith}
use Rattle.league.specs.Counts.{Counts}
use Rattle.league.specs.Structure.{IsRoundRobin}
use Rattle.moves.specs.Moves.{moved}
use Rattle.moves.specs.declared.swap.Swap.{Swap}
use Rattle.descent.specs.Score.{IsNoWorse}
use Rattle.descent.specs.Settled.{IsLowering}
use Rattle.descent.specs.Trail.{IsTrail, TrailsStayFeasible}
use Rattle.descent.specs.declared.score.Score.{Score}
use Rattle.descent.proofs.ScoreLemmas.{IsNoWorse-itself, IsNoWorse-lower, lower-feasible, lower-objective}

-- one move more
pub IsTrail-more : (n : ℕ) (phased : Bool) (score : Counts → Score) (first mid last : Counts) (trail : List Swap)
    (step : Swap) → IsTrail n phased score first trail mid → IsLowering n phased score mid step
    → last ≡ moved n mid step → IsTrail n phased score first (trail ++ step ∷ []) last
IsTrail-more n phased score first mid last [] step is lowers to = (
  subst (λ (m : Counts). IsLowering n phased score m step) is lowers,
  subst (λ (m : Counts). last ≡ moved n m step) is to,
)
IsTrail-more n phased score first mid last (next ∷ trail) step is lowers to =
    (is.0, IsTrail-more n phased score (moved n first next) mid last trail step is.1 lowers to)

-- the end isn't worse than the start
pub IsTrail-no_worse : (n : ℕ) (phased : Bool) (score : Counts → Score) (first last : Counts) (trail : List Swap)
    → IsTrail n phased score first trail last → IsNoWorse (score last) (score first)
IsTrail-no_worse n phased score first last [] is =
    subst (λ (m : Counts). IsNoWorse (score m) (score first)) (sym is) (IsNoWorse-itself (score first))
IsTrail-no_worse n phased score first last (step ∷ trail) is =
    IsNoWorse-lower (score first) (score (moved n first step)) (score last) is.0.lower
    (IsTrail-no_worse n phased score (moved n first step) last trail is.1)

-- a double round robin stays one
pub IsTrail-round_robin : (n : ℕ) (phased : Bool) (score : Counts → Score) (first last : Counts) (trail : List Swap)
    → IsRoundRobin n phased first → IsTrail n phased score first trail last → IsRoundRobin n phased last
IsTrail-round_robin n phased score first last [] round_robin is =
    subst (λ (m : Counts). IsRoundRobin n phased m) (sym is) round_robin
IsTrail-round_robin n phased score first last (step ∷ trail) round_robin is =
    IsTrail-round_robin n phased score (moved n first step) last trail is.0.legal.round_robin is.1

-- where nothing is infeasible, nothing becomes so, and the objective falls with each move
pub trails-stay_feasible : TrailsStayFeasible
trails-stay_feasible n phased score first last [] none is = (
  subst (λ (m : Counts). (score m).infeasibility ≡ 0) (sym is) none,
  omega (arith, ap (λ (m : Counts). (score m).objective) is),
)
trails-stay_feasible n phased score first last (step ∷ trail) none is =
    let mid : Counts = moved n first step in
    let rest = trails-stay_feasible n phased score mid last trail
    (lower-feasible (score mid) (score first) none is.0.lower) is.1 in
    (rest.0, omega (arith, rest.1, lower-objective (score mid) (score first) none is.0.lower))
