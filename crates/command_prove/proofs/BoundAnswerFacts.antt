-- Worked answers, so that a wrong definition of what `bound` may answer does not check.
use Rattle.std.proofs.Common.{◌≡◌, true, false, List, [], ◌∷◌, codes, refl}
use Rattle.std.specs.Fmt.{digits}
use Rattle.league.specs.Instance.{Instance}
use Rattle.league.specs.declared.class.Class.TheVariants.{Ca1}
use Rattle.league.specs.declared.class.Side.TheVariants.{H}
use Rattle.answers.specs.declared.status.Status.TheVariants.{Yes, No}
use Rattle.refutation.specs.Steps.{Step}
use Rattle.refutation.specs.Steps.Step.{Clause}
use Rattle.refutation.specs.declared.verdict.Cause.TheVariants.{NoConflict}
use Rattle.refutation.specs.declared.verdict.Verdict.TheVariants.{Accepted, Rejected}
use Rattle.command_prove.specs.Bound.{bound_answer, bound_verdict}

-- ---- texts

pub bound_answer-some : (bound_answer 5 1 Accepted ≡ record { status = Yes; text = codes "accepted bound 5 steps 1\n" })
    × (bound_answer 0 0 Accepted ≡ record { status = Yes; text = codes "accepted bound 0 steps 0\n" })
    × (bound_answer 6 1 (Rejected 1 NoConflict)
    ≡ record { status = No; text = codes "rejected step 1 cause NoConflict\n" })
unfolding digits
bound_answer-some = (refl, refl, refl)

-- ---- two teams, the first of which is to be away in both slots, at 5 for each home game: it has one

abbrev two : Instance
two = record {
  n = 2;
  phased = true;
  constraints = record { hard = false; penalty = 5; class = Ca1 (0 ∷ []) 0 0 H (0 ∷ 1 ∷ []) } ∷ [];
}

-- the objective row, the softened row, and one of the league's
abbrev one_step : List Step
one_step = Clause [] (32 ∷ 31 ∷ 27 ∷ []) ∷ []

pub two-five : bound_verdict two 5 one_step ≡ Accepted
two-five = refl

pub two-six : bound_verdict two 6 one_step ≡ Rejected 1 NoConflict
two-six = refl

-- no step is needed, and none is looked at, for: no objective is below 0
pub two-none : (bound_verdict two 0 [] ≡ Accepted) × (bound_verdict two 0 one_step ≡ Accepted)
two-none = (refl, refl)
