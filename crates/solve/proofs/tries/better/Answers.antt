use Rattle.std.proofs.Common.{[], ◌∷◌, ◌++◌, Option, None, ap, subst, sym, ◌∙◌}
use Rattle.solve.specs.Chosen as chosen
use Rattle.solve.specs.Earliest.{IsBestOf, season_of, season_tried}
use Rattle.solve.specs.declared.lower.Season.{Season}
use Rattle.solve.specs.declared.solved.Solved.{Solved}
use Rattle.solve.proofs.EarliestLemmas.{after-none}
use Rattle.solve.proofs.tries.better.Goals as goal

pub returns-in-Refuted-clause-kept : goal.returns-in-Refuted-clause-kept
returns-in-Refuted-clause-kept c = ap (λ (s : Solved). chosen.better s c.args.later) (sym c.in-Refuted.is)

pub returns-in-Spent-clause-kept : goal.returns-in-Spent-clause-kept
returns-in-Spent-clause-kept c =
    c.solved_by.ensures.answer ∙ ap (λ (s : Solved). chosen.better s c.args.later) (sym c.in-Spent.is)

pub returns-clause-kept : goal.returns-clause-kept
returns-clause-kept c =
    c.schedule_found.ensures.found
    ∙ (ap (λ (s : Season). chosen.schedule_found s) c.better_season.ensures.kept
    ∙ ap (λ (s : Solved). chosen.better s c.args.later) (sym c.in-Schedule.is))

pub returns-in-Spent-clause-best : goal.returns-in-Spent-clause-best
returns-in-Spent-clause-best c = λ found open_yet so_far.
    let none : IsBestOf found None = subst (λ (s : Solved). IsBestOf found (season_of s)) c.in-Spent.is so_far in
    subst (λ (o : Option Season). IsBestOf (found ++ season_tried c.args.later ∷ []) o) (sym c.solved_by.ensures.season)
    (after-none found c.args.later none)
