use Rattle.std.proofs.Common.{[], ◌∷◌, ◌++◌, None, Some, ap, subst, sym, ◌∙◌}
use Rattle.solve.specs.Chosen as chosen
use Rattle.solve.specs.Earliest.{IsBestOf, season_tried}
use Rattle.solve.specs.declared.tries.Tried.{Tried}
use Rattle.solve.proofs.EarliestLemmas.{lesser-is, stays}
use Rattle.solve.proofs.tries.better_season.Goals as goal

pub returns-in-Found-clause-best : goal.returns-in-Found-clause-best
returns-in-Found-clause-best c = λ found so_far.
    subst (λ (t : Tried). IsBestOf (found ++ season_tried t ∷ []) (Some c.lesser.result)) (sym c.in-Found.is)
    (lesser-is found c.args.best c.in-Found.season c.lesser.result c.lesser.ensures so_far)

pub returns-in-Refuted-clause-best : goal.returns-in-Refuted-clause-best
returns-in-Refuted-clause-best c = λ found so_far.
    subst (λ (t : Tried). IsBestOf (found ++ season_tried t ∷ []) (Some c.args.best)) (sym c.in-Refuted.is)
    (stays found c.args.best None tt so_far)

pub returns-clause-best : goal.returns-clause-best
returns-clause-best c = λ found so_far.
    subst (λ (t : Tried). IsBestOf (found ++ season_tried t ∷ []) (Some c.args.best)) (sym c.in-Spent.is)
    (stays found c.args.best None tt so_far)

pub returns-in-Found-clause-kept : goal.returns-in-Found-clause-kept
returns-in-Found-clause-kept c =
    c.lesser.ensures ∙ ap (λ (t : Tried). chosen.better_season c.args.best t) (sym c.in-Found.is)
