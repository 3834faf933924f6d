use Rattle.std.proofs.Common.{◌∙◌}
use Rattle.refutation.specs.Steps.Step.{Clause}
use Rattle.refutation_check.proofs.KeptLemmas.{found_within}
use Rattle.refutation_check.proofs.ReplayLemmas.{none_listed}
use Rattle.refutation_check.proofs.checker.Checker.step.Goals as goal

pub judge_clause-found-requires-clause-listed : goal.judge_clause-found-requires-clause-listed
judge_clause-found-requires-clause-listed c =
    none_listed c.self.inside.partial c.self.inside.trail.items c.self.invariant.free c.self.invariant.unset

pub invariant_of-self-2 : goal.invariant_of-self-2
invariant_of-self-2 c = record {
  free = c.undo.ensures.values;
  sized = c.undo.ensures.length ∙ (c.judge_clause-found.ensures.length ∙ c.self.invariant.sized);
  unset = c.undo.ensures.trail;
  nothing_added = c.self.invariant.nothing_added;
  within = c.keep.ensures.within c.self.inside.rows.now c.self.inside.vars c.self.invariant.within
      (found_within c.self.inside.rows.now c.self.inside.vars c.self.inside.steps.items c.deref.result.now
      c.in_ok-found.field-0 (Clause c.args.clause.now c.args.hints.now) c.deref.ensures.value
      c.in_ok-found.ensures.row c.self.invariant.within);
  counted = c.keep.ensures.counted;
}
