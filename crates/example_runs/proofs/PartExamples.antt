-- A league of two teams whose first constraint wants 0 at home to 1 in slot 0, and whose third wants 1 at home to 0
-- there.
use Rattle.std.proofs.Common.{◌≡◌, true, false, Some, List, [], ◌∷◌, map, zero, suc, IsTrue}
use Rattle.std.proofs.Common.{refl, arith}
use Rattle.std.specs.List.{All}
use Rattle.league.specs.Accepted.{IsAccepted}
use Rattle.league.specs.Counts.{counts_of}
use Rattle.league.specs.Instance.{Instance, IsInstance, class_fits}
use Rattle.league.specs.declared.class.Class.{Class}
use Rattle.league.specs.declared.class.Class.TheVariants.{Br2, Ga1}
use Rattle.league.specs.declared.class.Constraint.{Constraint}
use Rattle.league.specs.declared.game.Game.{Game}
use Rattle.league.proofs.AcceptedLemmas.{MeetsHard-from_sum}
use Rattle.league.proofs.DoubleFour.{game}
use Rattle.encoding.specs.Encoding.{rows_of}
use Rattle.encoding.specs.Variables.{var_count}
use Rattle.refutation.specs.Steps.{Step}
use Rattle.refutation.specs.Steps.Step.{Clause}
use Rattle.refutation.specs.Verdict.{verdict_of}
use Rattle.refutation.specs.declared.verdict.Verdict.TheVariants.{Accepted}
use Rattle.decoding.specs.Excluded.{NoneAccepted}
use Rattle.decoding.proofs.SeasonLemmas.{accepted_logs_exclude}
use Rattle.explain.specs.Parts.{first_unknown, hard_numbers, is_hard_number, part_of, without}

abbrev hard : Class → Constraint
hard class = record { hard = true; penalty = 0; class = class }

-- the second costs something and is no member of anything
abbrev no_breaks : Constraint
no_breaks = record { hard = false; penalty = 7; class = Br2 (0 ∷ 1 ∷ []) 0 (1 ∷ []) }

abbrev with : List Constraint → Instance
with constraints = record { n = 2; phased = false; constraints = constraints }

abbrev there : Constraint
there = hard (Ga1 ((0, 1) ∷ []) 1 1 (0 ∷ []))

abbrev back : Constraint
back = hard (Ga1 ((1, 0) ∷ []) 1 1 (0 ∷ []))

abbrev league : Instance
league = with (there ∷ no_breaks ∷ back ∷ [])

-- ---- parts

pub numbers : (hard_numbers league.constraints ≡ 1 ∷ 3 ∷ []) × (map (is_hard_number league.constraints) (0 ∷ 2 ∷ 4 ∷ []) ≡ false ∷ false ∷ false ∷ [])
    × (first_unknown league (3 ∷ 4 ∷ []) ≡ Some 4)
numbers = (refl, refl, refl)

-- numbers that no constraint has add nothing; which of them are hard is asked apart
pub parts : (part_of league (1 ∷ 3 ∷ []) ≡ with (there ∷ back ∷ [])) × (part_of league (0 ∷ 3 ∷ 9 ∷ []) ≡ with (back ∷ []))
    × (part_of league (2 ∷ []) ≡ with (no_breaks ∷ []))
parts = (refl, refl, refl)

pub without_some : (without 1 (1 ∷ 3 ∷ []) ≡ 3 ∷ []) × (without 2 (1 ∷ 3 ∷ []) ≡ 1 ∷ 3 ∷ [])
without_some = (refl, refl)

-- ---- a conflict of both: rows 29 and 30 ask for the two games of slot 0, and row 6 allows one of them

abbrev both : Instance
both = part_of league (1 ∷ 3 ∷ [])

abbrev log : List Step
log = Clause [] (29 ∷ 30 ∷ 6 ∷ []) ∷ []

pub refuted : verdict_of (rows_of both) (var_count both) log ≡ Accepted
refuted = refl

both_fit : All (λ (c : Constraint). IsTrue (class_fits 2 c.class)) both.constraints
both_fit zero d h = refl
both_fit (suc zero) d h = refl
both_fit (suc (suc k)) d h = absurd (omega arith)

both_instance : IsInstance both
both_instance = record { teams = record { even = refl; at_least = omega arith; at_most = omega arith }; few = omega arith; fit = both_fit }

pub none : NoneAccepted both
none = accepted_logs_exclude both log both_instance refuted

-- either is met by itself: the league without the other accepts a season, so that the conflict is irreducible
abbrev out : List Game
out = game 0 1 0 ∷ game 1 0 1 ∷ []

abbrev home : List Game
home = game 1 0 0 ∷ game 0 1 1 ∷ []

pub out_accepted : IsAccepted (part_of league (1 ∷ [])) (counts_of out)
out_accepted = record {
  round_robin = record { pairs = refl; cells = refl; phases = refl };
  hard = MeetsHard-from_sum (part_of league (1 ∷ [])) (counts_of out) refl;
}

pub home_accepted : IsAccepted (part_of league (3 ∷ [])) (counts_of home)
home_accepted = record {
  round_robin = record { pairs = refl; cells = refl; phases = refl };
  hard = MeetsHard-from_sum (part_of league (3 ∷ [])) (counts_of home) refl;
}
