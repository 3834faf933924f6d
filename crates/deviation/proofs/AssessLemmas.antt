-- From the weights of a league's constraints to the assessment.
use Rattle.std.proofs.Common.{◌≡◌, ◌↔◌, ◌∙◌, sym}
use Rattle.league.specs.Accepted.{IsAccepted}
use Rattle.league.specs.Counts.{Counts}
use Rattle.league.specs.Instance.{Instance}
use Rattle.league.specs.declared.wrongs.Wrongs.{Wrongs}
use Rattle.league.proofs.AcceptedLemmas.{MeetsHard-from_sum, sum-from_MeetsHard}
use Rattle.deviation.specs.Assess.{AreWeightsOf, IsStructureOf}
use Rattle.deviation.specs.declared.weights.Weights.{Weights}

-- a league accepts a schedule exactly where nothing is wrong and no hard constraint deviates
pub accepted-counted : (league : Instance) (m : Counts) (wrongs : Wrongs) (weights : Weights) → IsStructureOf league m wrongs → AreWeightsOf league.n m league.constraints weights
    → ((wrongs.pairs_wrong ≡ 0) × (wrongs.cells_wrong ≡ 0) × (wrongs.phases_wrong ≡ 0) × (weights.hard_deviation ≡ 0)) ↔ IsAccepted league m
accepted-counted league m wrongs weights structure are = (
  λ zero. record {
    round_robin = record { pairs = sym structure.pairs ∙ zero.0; cells = sym structure.cells ∙ zero.1; phases = sym structure.phases ∙ zero.2 };
    hard = MeetsHard-from_sum league m (sym are.hard_deviation ∙ zero.3);
  },
  λ accepted. (structure.pairs ∙ accepted.round_robin.pairs, structure.cells ∙ accepted.round_robin.cells, structure.phases ∙ accepted.round_robin.phases, are.hard_deviation ∙ sum-from_MeetsHard league m accepted.hard),
)
