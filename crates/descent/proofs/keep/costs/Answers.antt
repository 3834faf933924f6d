use Rattle.std.proofs.Common.{List, ap, refl, ◌∙◌, arith}
use Rattle.std.proofs.lemmas.List.{take_all}
use Rattle.std.proofs.lemmas.List.Sums.{sum_by-take-le, sum_by_more}
use Rattle.std.specs.List.{sum_by}
use Rattle.descent.specs.Ready.{hard_cost, soft_cost}
use Rattle.descent.specs.declared.kept.Kept.{Kept}
use Rattle.descent.proofs.CostLemmas.{hard_fits, item_ready, soft_fits}
use Rattle.descent.proofs.keep.costs.Goals as goal

pub add-requires-clause-few : goal.add-requires-clause-few
add-requires-clause-few g c =
    (item_ready g.R.Entries c.args.cells.now.n c.args.room c.args.room c.args.rules.now c.loop-kept.kept-index
    c.kept-item.result c.requires.ready c.loop-kept-test.true c.kept-item.is refl).few

pub add-requires-clause-small : goal.add-requires-clause-small
add-requires-clause-small g c =
    (item_ready g.R.Entries c.args.cells.now.n c.args.room c.args.room c.args.rules.now c.loop-kept.kept-index
    c.kept-item.result c.requires.ready c.loop-kept-test.true c.kept-item.is refl).small

pub add-requires-clause-infeasibility_room : goal.add-requires-clause-infeasibility_room
add-requires-clause-infeasibility_room g c = omega (arith, hard_fits g.R.Entries c.args.cells.now.n c.args.room c.args.rules.now c.requires.ready, sum_by-take-le hard_cost c.args.rules.now c.loop-kept.kept-index, c.loop-kept.invariant.infeasibility, c.requires.few)

pub add-requires-clause-objective_room : goal.add-requires-clause-objective_room
add-requires-clause-objective_room g c = omega (arith, soft_fits g.R.Entries c.args.cells.now.n c.args.room c.args.rules.now c.requires.ready, sum_by-take-le soft_cost c.args.rules.now c.loop-kept.kept-index, c.loop-kept.invariant.objective, c.requires.few)

pub loop-kept-preserved : goal.loop-kept-preserved
loop-kept-preserved g c = record {
  infeasibility = omega (arith, c.add.ensures.infeasibility, c.loop-kept.invariant.infeasibility, sum_by_more hard_cost c.args.rules.now c.loop-kept.kept-index c.kept-item.result c.loop-kept-test.true, ap hard_cost c.kept-item.is);
  objective = omega (arith, c.add.ensures.objective, c.loop-kept.invariant.objective, sum_by_more soft_cost c.args.rules.now c.loop-kept.kept-index c.kept-item.result c.loop-kept-test.true, ap soft_cost c.kept-item.is);
}

pub returns-clause-infeasibility : goal.returns-clause-infeasibility
returns-clause-infeasibility g c =
    c.loop-kept.invariant.infeasibility
    ∙ ap (λ (l : List (Kept g.row.R.Denot)). sum_by hard_cost l)
    (take_all c.loop-kept.kept-index c.args.rules.now (omega (arith, c.loop-kept-test.false)))

pub returns-clause-objective : goal.returns-clause-objective
returns-clause-objective g c =
    c.loop-kept.invariant.objective
    ∙ ap (λ (l : List (Kept g.row.R.Denot)). sum_by soft_cost l)
    (take_all c.loop-kept.kept-index c.args.rules.now (omega (arith, c.loop-kept-test.false)))
