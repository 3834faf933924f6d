-- Worked values, so that a wrong definition does not check: on the canonical double round robin of four teams.
use Rattle.std.proofs.Common.{◌≡◌, true, false, [], ◌∷◌, refl}
use Rattle.league.specs.Instance.{Instance}
use Rattle.league.specs.declared.class.Class.TheVariants.{Ca1}
use Rattle.league.specs.declared.class.Constraint.{Constraint}
use Rattle.league.specs.declared.class.Side.TheVariants.{A, H}
use Rattle.league.proofs.DoubleFour.{four}
use Rattle.walk.specs.Walked.{league_score}

-- a hard constraint that costs nothing: no home game of team 0 in slots 2 and 3
abbrev free : Constraint
free = record { hard = true; penalty = 0; class = Ca1 (0 ∷ []) 0 0 H (2 ∷ 3 ∷ []) }

-- no away game of team 0 in slot 0
abbrev wish : Constraint
wish = record { hard = false; penalty = 5; class = Ca1 (0 ∷ []) 0 0 A (0 ∷ []) }

abbrev demands : Instance
demands = record { n = 4; phased = true; constraints = free ∷ wish ∷ [] }

-- team 0 is at home in slots 2 and 3, each of which counts although it costs nothing, and away in slot 0
pub league_score-four : league_score demands four ≡ record { infeasibility = 2; objective = 5 }
league_score-four = refl
