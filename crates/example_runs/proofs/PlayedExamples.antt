-- Two teams, whose slot 0 is played: 1 was at home to 0. The game of 0 at home to 1 is wanted in slot 1 by one league,
-- in slot 0 by another. x(0,1,s) is 1 + s, x(1,0,s) 3 + s, h(0,s) 5 + s, h(1,s) 7 + s.
use Rattle.std.proofs.Common.{◌≡◌, ℕ, zero, suc, ◌<◌, Bool, true, false, ◌&&◌, ◌==◌, List, [], ◌∷◌, map, IsTrue}
use Rattle.std.proofs.Common.{drop, refl, arith, lit<, lit≤}
use Rattle.std.specs.List.{All}
use Rattle.league.specs.Counts.{counts_of}
use Rattle.league.specs.Instance.{Instance, IsInstance, class_fits}
use Rattle.league.specs.declared.class.Class.TheVariants.{Ca1, Ga1}
use Rattle.league.specs.declared.class.Side.TheVariants.{A}
use Rattle.league.specs.declared.class.Constraint.{Constraint}
use Rattle.league.specs.declared.game.Game.{Game}
use Rattle.league.proofs.AcceptedLemmas.{MeetsHard-from_sum}
use Rattle.league.proofs.DoubleFour.{game}
use Rattle.rows.specs.Cardinality.{at_least}
use Rattle.rows.specs.Literals.{no, yes}
use Rattle.rows.specs.Values.{assigned}
use Rattle.rows.proofs.TestLemmas.{SatisfiesAll-from_true}
use Rattle.encoding.specs.Variables.{var_count}
use Rattle.refutation.specs.Steps.{Step}
use Rattle.refutation.specs.Steps.Step.{Clause}
use Rattle.refutation.specs.Verdict.{verdict_of}
use Rattle.refutation.specs.declared.verdict.Verdict.TheVariants.{Accepted}
use Rattle.refutation_check.proofs.SoundLemmas.{accepted_logs_refute}
use Rattle.resume.specs.Kept.{is_played, resume_rows, resume_size}
use Rattle.resume.specs.Resumable.{IsResumption, IsSatisfiable, NoneResumes}
use Rattle.resume.proofs.Faithful.{accepted_logs_exclude}

-- 0 is at home to 1 in this slot
abbrev wants : ℕ → Instance
wants slot = record {
  n = 2;
  phased = true;
  constraints = record { hard = true; penalty = 1; class = Ga1 ((0, 1) ∷ []) 1 1 (slot ∷ []) } ∷ [];
}

abbrev played : List Game
played = game 1 0 0 ∷ []

abbrev season : List Game
season = game 0 1 1 ∷ game 1 0 0 ∷ []

-- ---- slot 1 is free

and_false : (b : Bool) → (b && false) ≡ false
and_false true = refl
and_false false = refl

-- the game of slot 1 is none of slot 0
keeps_slot : (i j s : ℕ) → s < 1 → is_played (counts_of season) i j s ≡ is_played (counts_of played) i j s
keeps_slot i j zero within = rw (and_false ((0 == i) && (1 == j))) refl
keeps_slot i j (suc s) within = absurd (omega (arith, within))

pub resumes : IsResumption (wants 1) (counts_of played) 1 season
resumes = record {
  accepted = record {
    round_robin = record { pairs = refl; cells = refl; phases = refl };
    hard = MeetsHard-from_sum (wants 1) (counts_of season) refl;
  };
  keeps = keeps_slot;
}

-- some season resumes
pub some_resume : NoneResumes (wants 1) (counts_of played) 1 → ⊥
some_resume none = none season resumes

-- 2, 3, 6 and 7 are true
pub satisfiable : IsSatisfiable (resume_rows (wants 1) (counts_of played) 1)
satisfiable =
    let values : ℕ → Bool = assigned (false ∷ true ∷ true ∷ false ∷ false ∷ true ∷ true ∷ false ∷ []) in
    (values, SatisfiesAll-from_true values (resume_rows (wants 1) (counts_of played) 1) refl)

-- the games in the other order of slots are accepted by the league without demands, and don't keep
abbrev free : Instance
free = record { n = 2; phased = true; constraints = [] }

true_false : true ≡ false → ⊥
true_false is = cc

pub others_played : IsResumption free (counts_of played) 1 (game 0 1 0 ∷ game 1 0 1 ∷ []) → ⊥
others_played resumption = true_false (resumption.keeps 0 1 0 (lit< tt))

-- what was played alone keeps, and is no season: 0 isn't at home to 1
pub unfinished : IsResumption free (counts_of played) 1 played → ⊥
unfinished resumption = omega (arith, resumption.accepted.round_robin.pairs)

-- where no slot is played they may
pub none_played : IsResumption free (counts_of played) 0 (game 0 1 0 ∷ game 1 0 1 ∷ [])
none_played = record {
  accepted = record {
    round_robin = record { pairs = refl; cells = refl; phases = refl };
    hard = MeetsHard-from_sum free (counts_of (game 0 1 0 ∷ game 1 0 1 ∷ [])) refl;
  };
  keeps = λ i j s within. absurd (omega (arith, within));
}

-- ---- slot 0 isn't: row 31 asks for the game, and row 32 says that it isn't there

pub rows-none : drop 30 (resume_rows (wants 0) (counts_of played) 1)
    ≡ at_least 1 (yes 1 ∷ []) ∷ at_least 1 (no 1 ∷ []) ∷ at_least 1 (yes 3 ∷ []) ∷ []
rows-none = refl

abbrev log : List Step
log = Clause [] (32 ∷ 31 ∷ []) ∷ []

pub refuted : verdict_of (resume_rows (wants 0) (counts_of played) 1) (var_count (wants 0)) log ≡ Accepted
refuted = refl

wants_fit : All (λ (c : Constraint). IsTrue (class_fits 2 c.class)) (wants 0).constraints
wants_fit zero d h = refl
wants_fit (suc k) d h = absurd (omega arith)

wants_instance : IsInstance (wants 0)
wants_instance = record {
  teams = record { even = refl; at_least = omega arith; at_most = omega arith };
  few = omega arith;
  fit = wants_fit;
}

pub none_resumes : NoneResumes (wants 0) (counts_of played) 1
none_resumes = accepted_logs_exclude (wants 0) played 1 log wants_instance (lit≤ tt) refuted

-- the rows aren't satisfiable: the game of 0 at home to 1 in slot 0 would take place and not take place
pub unsatisfiable : IsSatisfiable (resume_rows (wants 0) (counts_of played) 1) → ⊥
unsatisfiable found =
    accepted_logs_refute (resume_rows (wants 0) (counts_of played) 1) (var_count (wants 0)) log refuted found.0 found.1

-- ---- sizes: four teams, the first of which has no away game in slots 3 to 5; each played slot adds twelve terms

abbrev home_games_last : Instance
home_games_last = record {
  n = 4;
  phased = true;
  constraints = record { hard = true; penalty = 1; class = Ca1 (0 ∷ []) 0 0 A (3 ∷ 4 ∷ 5 ∷ []) } ∷ [];
}

pub sizes : map (resume_size home_games_last) (0 ∷ 3 ∷ 6 ∷ []) ≡ 795 ∷ 831 ∷ 867 ∷ []
sizes = refl
