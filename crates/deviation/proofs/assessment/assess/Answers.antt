use Rattle.std.proofs.Common.{◌∙◌, ap, subst}
use Rattle.league.specs.Counts.{Counts, counts_of}
use Rattle.deviation.specs.Assess.{AreWeightsOf, IsStructureOf}
use Rattle.deviation.proofs.AssessLemmas.{accepted-counted}
use Rattle.deviation.proofs.assessment.assess.Goals as goal

weighed : (c : goal.After-drop-cells-2) → AreWeightsOf c.args.league.now.n (counts_of c.args.schedule.now) c.args.league.now.constraints c.in_ok-weights.weights
weighed c = subst (λ (m : Counts). AreWeightsOf c.args.league.now.n m c.args.league.now.constraints c.in_ok-weights.weights) (c.in_ok-cells.ensures.counts ∙ ap counts_of c.games.ensures) c.in_ok-weights.ensures

pub returns-clause-vectors : goal.returns-clause-vectors
returns-clause-vectors c = (weighed c).vectors

pub returns-clause-infeasibility : goal.returns-clause-infeasibility
returns-clause-infeasibility c = (weighed c).infeasibility

pub returns-clause-objective : goal.returns-clause-objective
returns-clause-objective c = (weighed c).objective

pub returns-clause-feasible : goal.returns-clause-feasible
returns-clause-feasible c =
    let structure : IsStructureOf c.args.league.now (counts_of c.args.schedule.now) c.structure-wrongs.result = record { pairs = c.structure-wrongs.ensures.pairs; cells = c.structure-wrongs.ensures.cells; phases = c.structure-wrongs.ensures.phases } in
    let counted = accepted-counted c.args.league.now (counts_of c.args.schedule.now) c.structure-wrongs.result c.in_ok-weights.weights structure (weighed c) in
    (λ feasible. counted.0 (c.is_feasible-feasible.ensures.0 feasible), λ accepted. c.is_feasible-feasible.ensures.1 (counted.1 accepted))
