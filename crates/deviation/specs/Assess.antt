-- What an assessment keeps of the constraints so far.
use Rattle.std.specs.Prelude.{◌≡◌, ◌≤◌, ℕ, List, map}
use Rattle.std.specs.List.{sum_by}
use Rattle.league.specs.Accepted.{cost_of, hard_of, soft_of}
use Rattle.league.specs.Counts.{Counts}
use Rattle.league.specs.Deviation.{deviation_of, vector_of}
use Rattle.league.specs.Instance.{Instance}
use Rattle.league.specs.Structure.{cells_wrong, pairs_wrong, phases_wrong}
use Rattle.league.specs.declared.class.Constraint.{Constraint}
use Rattle.league.specs.declared.wrongs.Wrongs.{Wrongs}
use Rattle.deviation.specs.declared.weights.Weights.{Weights}

-- the vectors and costs of these constraints
pub record AreWeightsOf (n : ℕ) (m : Counts) (constraints : List Constraint) (weights : Weights) : Type 0 where
  pub vectors : map (λ entries. entries.items) weights.vectors.items ≡ map (λ c. vector_of n m c.class) constraints
  pub infeasibility : weights.infeasibility ≡ cost_of n m (hard_of constraints)
  pub objective : weights.objective ≡ cost_of n m (soft_of constraints)
  pub hard_deviation : weights.hard_deviation ≡ sum_by (λ c. deviation_of n m c.class) (hard_of constraints)

-- no sum is above this one
pub record AreAtMost (most : ℕ) (weights : Weights) : Type 0 where
  pub infeasibility : weights.infeasibility ≤ most
  pub objective : weights.objective ≤ most
  pub hard_deviation : weights.hard_deviation ≤ most

-- the three counts of what a schedule has wrong
pub record IsStructureOf (league : Instance) (m : Counts) (wrongs : Wrongs) : Type 0 where
  pub pairs : wrongs.pairs_wrong ≡ pairs_wrong league.n m
  pub cells : wrongs.cells_wrong ≡ cells_wrong league.n m
  pub phases : wrongs.phases_wrong ≡ phases_wrong league.n league.phased m
