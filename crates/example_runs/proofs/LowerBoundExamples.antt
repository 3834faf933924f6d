-- Two teams: a game of 0 at home to 1 in slot 0 is wanted, at 5 where it is missing, and one of 1 at home to 0 there,
-- at 2. One of the two takes place: a season costs 2, or 5 where 1 is at home in slot 0.
use Rattle.std.proofs.Common.{◌≡◌, ℕ, ◌≤◌, false, List, [], ◌∷◌, zero, suc, IsTrue}
use Rattle.std.proofs.Common.{drop, refl, arith}
use Rattle.std.specs.List.{All}
use Rattle.league.specs.Accepted.{IsAccepted, objective}
use Rattle.league.specs.Counts.{Counts, counts_of}
use Rattle.league.specs.Instance.{Instance, IsInstance, class_fits}
use Rattle.league.specs.declared.class.Class.TheVariants.{Ga1}
use Rattle.league.specs.declared.class.Constraint.{Constraint}
use Rattle.league.proofs.AcceptedLemmas.{MeetsHard-from_sum}
use Rattle.league.proofs.DoubleFour.{game}
use Rattle.rows.specs.Cardinality.{at_least}
use Rattle.rows.specs.Literals.{no, yes}
use Rattle.refutation.specs.Steps.{Step}
use Rattle.refutation.specs.Steps.Step.{Clause}
use Rattle.refutation.specs.Verdict.{verdict_of}
use Rattle.refutation.specs.declared.verdict.Verdict.TheVariants.{Accepted}
use Rattle.refutation_check.proofs.SoundLemmas.{accepted_logs_refute}
use Rattle.bound_rows.specs.BoundRows.{bound_rows, bound_vars}
use Rattle.bound_rows.specs.Faithful.{IsLowerBound}
use Rattle.bound_rows.proofs.Faithful.{bounds-from_refuted}

-- one game of the meeting in slot 0
abbrev wanted : ℕ → ℕ × ℕ → Constraint
wanted penalty p = record { hard = false; penalty = penalty; class = Ga1 (p ∷ []) 1 1 (0 ∷ []) }

abbrev league : Instance
league = record { n = 2; phased = false; constraints = wanted 5 (0, 1) ∷ wanted 2 (1, 0) ∷ [] }

abbrev out : Counts
out = counts_of (game 0 1 0 ∷ game 1 0 1 ∷ [])

abbrev home : Counts
home = counts_of (game 1 0 0 ∷ game 0 1 1 ∷ [])

pub objectives : (objective league out ≡ 2) × (objective league home ≡ 5)
objectives = (refl, refl)

-- ---- no season costs 1 at most

-- 9 stands for the first missing game, 10 for the second; at most 1 is to be paid, so that 6 of 7 are to be saved
pub rows-one : drop 28 (bound_rows league 1)
    ≡ at_least 1 (yes 1 ∷ yes 9 ∷ [])
    ∷ at_least 1 (yes 3 ∷ yes 10 ∷ [])
    ∷ record { terms = record { coef = 5; lit = no 9 } ∷ record { coef = 2; lit = no 10 } ∷ []; degree = 6 }
    ∷ []
rows-one = refl

-- row 31 forbids both to be missing, rows 29 and 30 then ask for both games, and row 6 allows team 0 one game in slot 0
abbrev log : List Step
log = Clause [] (31 ∷ 29 ∷ 30 ∷ 6 ∷ []) ∷ []

pub refuted : verdict_of (bound_rows league 1) (bound_vars league) log ≡ Accepted
refuted = refl

league_fit : All (λ (c : Constraint). IsTrue (class_fits 2 c.class)) league.constraints
league_fit zero d h = refl
league_fit (suc zero) d h = refl
league_fit (suc (suc k)) d h = absurd (omega arith)

league_instance : IsInstance league
league_instance = record {
  teams = record { even = refl; at_least = omega arith; at_most = omega arith };
  few = omega arith;
  fit = league_fit;
}

-- each accepted season costs 2 at least
pub lower-two : IsLowerBound league 2
lower-two = bounds-from_refuted league 2 league_instance
    (accepted_logs_refute (bound_rows league 1) (bound_vars league) log refuted)

-- a smaller number is a bound too
pub lower-less : IsLowerBound league 1 × IsLowerBound league 0
lower-less = (λ m accepted. omega (arith, lower-two m accepted), λ m accepted. omega arith)

-- 3 is none: there is an accepted season that costs 2
pub out_accepted : IsAccepted league out
out_accepted = record {
  round_robin = record { pairs = refl; cells = refl; phases = refl };
  hard = MeetsHard-from_sum league out refl;
}

pub lower-three : IsLowerBound league 3 → ⊥
lower-three bound = let low : 3 ≤ 2 = bound out out_accepted in omega (arith, low)
