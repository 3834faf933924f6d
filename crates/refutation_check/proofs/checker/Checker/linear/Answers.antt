use Rattle.std.proofs.Common.{◌∙◌}
use Rattle.std.proofs.lemmas.Result.{on_ok_weaker}
use Rattle.refutation.specs.Steps.Step.{Linear}
use Rattle.refutation.specs.declared.step.StepKind.TheVariants as kinds
use Rattle.refutation_check.proofs.KeptLemmas.{found_within}
use Rattle.refutation_check.proofs.StateLemmas.{judged_next, none_kept}
use Rattle.refutation_check.proofs.checker.Checker.linear.Goals as goal

pub invariant_of-self-2 : goal.invariant_of-self-2
invariant_of-self-2 c = record {
  free = c.self.invariant.free;
  sized = c.self.invariant.sized;
  unset = c.self.invariant.unset;
  nothing_added = c.clear.ensures;
  within = c.keep.ensures.within c.self.inside.rows.now c.self.inside.vars c.self.invariant.within
      (found_within c.self.inside.rows.now c.self.inside.vars c.self.inside.steps.items c.deref.result.now
      c.in_ok-shared.shared (Linear c.args.parts.now c.args.divisor) c.deref.ensures.value
      (c.in_ok-shared.ensures.row ∙ c.in_ok-found.ensures.row c.self.inside.vars) c.self.invariant.within);
  counted = c.keep.ensures.counted;
}

pub returns-clause-ok : goal.returns-clause-ok
returns-clause-ok c =
    on_ok_weaker c.keep.result
    (λ kept. judged_next c.self.inside.rows.now c.self.inside.vars c.self.inside.steps.items c.deref.result.now
    c.self.inside.rejection c.args.self.now _ (Linear c.args.parts.now c.args.divisor) c.in_ok-shared.shared
    c.self.view_is (none_kept c.self.inside.rejection c.is_some.result c.is_some.ensures c.if-is_some.false)
    c.deref.ensures.value (c.in_ok-shared.ensures.row ∙ c.in_ok-found.ensures.row c.self.inside.vars)
    (kept c.self.inside.rows.now c.self.inside.vars kinds.Linear
    (c.in_ok-shared.ensures.kind kinds.Linear c.in_ok-found.ensures.kind)))
    c.keep.ensures.ok
