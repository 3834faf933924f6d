use Rattle.std.proofs.Common.{[], ◌∷◌, Option, None, Some, ap, refl, subst, sym, ◌∙◌}
use Rattle.std.specs.Prelude.{IsNone}
use Rattle.std.proofs.lemmas.List.Elements.{All-cons, All-nil}
use Rattle.solve.specs.Chosen as chosen
use Rattle.solve.specs.Earliest.{IsBestOf, season_tried}
use Rattle.solve.specs.declared.lower.Season.{Season}
use Rattle.solve.specs.declared.tries.Tried.TheVariants as tries
use Rattle.solve.proofs.EarliestLemmas.{after-none, one-best}
use Rattle.solve.proofs.tries.with_walked.Goals as goal

pub returns-in-Some-clause-kept : goal.returns-in-Some-clause-kept
returns-in-Some-clause-kept c =
    ap (λ (s : Season). tries.Found s) c.better_season.ensures.kept
    ∙ ap (λ (o : Option Season). chosen.with_walked c.args.found o) (sym c.in-Some.is)

pub returns-in-Some-clause-best : goal.returns-in-Some-clause-best
returns-in-Some-clause-best c =
    subst (λ (o : Option Season). IsBestOf (o ∷ season_tried c.args.found ∷ []) (Some c.better_season.result))
    (sym c.in-Some.is)
    (c.better_season.ensures.best (Some c.in-Some.season ∷ []) (one-best (Some c.in-Some.season)))

pub returns-in-None-clause-best : goal.returns-in-None-clause-best
returns-in-None-clause-best c =
    subst (λ (o : Option Season). IsBestOf (o ∷ season_tried c.args.found ∷ []) (season_tried c.args.found))
    (sym c.in-None.is)
    (after-none (None ∷ []) c.args.found (All-cons IsNone None [] refl (All-nil IsNone)))
