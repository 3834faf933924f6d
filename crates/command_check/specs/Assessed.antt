-- What an assessment of a schedule says.
use Rattle.std.specs.Prelude.{◌≡◌, ◌↔◌, List, map, IsTrue}
use Rattle.league.specs.Accepted.{IsAccepted, infeasibility, objective}
use Rattle.league.specs.Counts.{counts_of}
use Rattle.league.specs.Deviation.{vector_of}
use Rattle.league.specs.Instance.{Instance}
use Rattle.league.specs.declared.game.Game.{Game}
use Rattle.deviation.specs.Assess.{IsStructureOf}
use Rattle.deviation.specs.declared.assessment.Assessment.{Assessment}

-- an assessment is what `assess` of `deviation` finds of some games by a league
pub record IsAssessmentOf (league : Instance) (games : List Game) (assessed : Assessment) : Type 0 where
  pub structure : IsStructureOf league (counts_of games) assessed.structure
  pub vectors : assessed.vectors ≡ map (λ c. vector_of league.n (counts_of games) c.class) league.constraints
  pub infeasible : assessed.infeasibility ≡ infeasibility league (counts_of games)
  pub cost : assessed.objective ≡ objective league (counts_of games)
  pub feasible : IsTrue assessed.feasible ↔ IsAccepted league (counts_of games)
