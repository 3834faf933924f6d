use Rattle.std.proofs.Common.{ℕ, ◌≤◌, List, length, ap, arith, refl, sym, ◌∙◌}
use Rattle.std.proofs.lemmas.List.{drop_all}
use Rattle.std.specs.Prelude.{Result, Ok}
use Rattle.std.specs.declared.alloc.AllocError.{AllocError}
use Rattle.rows.specs.Values.{valued}
use Rattle.refutation.specs.Following as following
use Rattle.refutation_check.specs.Kept.{all_rows}
use Rattle.refutation_check.specs.declared.replay.Turn.{Turn}
use Rattle.refutation_check.proofs.ReplayLemmas.{conflict_next, forced_next, unknown_next}
use Rattle.refutation_check.proofs.replay.replay.Goals as goal

pub loop-hint-init : goal.loop-hint-init
loop-hint-init c = record { rest = refl; kept = refl; listed = c.requires.listed }

pub loop-hint-preserved : goal.loop-hint-preserved
loop-hint-preserved c = record {
  rest = forced_next (all_rows c.args.rows.now c.args.steps.now) c.args.hints.now c.loop-hint.hint-index
      (valued c.loop-hint.partial) (valued c.take_turn.new.partial) c.loop-hint-test.true
      (sym c.in_ok-take_turn.ensures.turn ∙ c.in-Forced.is)
      (c.in_ok-take_turn.ensures.values
      (ap (λ (t : Turn). let r : Result Turn AllocError = Ok t in r) c.in-Forced.is))
      ∙ c.loop-hint.invariant.rest;
  kept = c.in_ok-take_turn.ensures.length ∙ c.loop-hint.invariant.kept;
  listed = c.in_ok-take_turn.ensures.listed;
}

pub returns-in-Unknown-clause-cause : goal.returns-in-Unknown-clause-cause
returns-in-Unknown-clause-cause c =
    sym (unknown_next (all_rows c.args.rows.now c.args.steps.now) c.args.hints.now c.loop-hint.hint-index
    (valued c.loop-hint.partial) c.loop-hint-test.true (sym c.in_ok-take_turn.ensures.turn ∙ c.in-Unknown.is))
    ∙ c.loop-hint.invariant.rest

pub returns-in-Conflict-clause-cause : goal.returns-in-Conflict-clause-cause
returns-in-Conflict-clause-cause c =
    sym (conflict_next (all_rows c.args.rows.now c.args.steps.now) c.args.hints.now c.loop-hint.hint-index
    (valued c.loop-hint.partial) c.loop-hint-test.true (sym c.in_ok-take_turn.ensures.turn ∙ c.in-Conflict.is))
    ∙ c.loop-hint.invariant.rest

pub returns-clause-cause : goal.returns-clause-cause
returns-clause-cause c =
    let past : length c.args.hints.now ≤ c.loop-hint.hint-index = omega arith in
    sym (ap (λ (hints : List ℕ). following.replay (all_rows c.args.rows.now c.args.steps.now) hints
    (valued c.loop-hint.partial)) (drop_all c.loop-hint.hint-index c.args.hints.now past))
    ∙ c.loop-hint.invariant.rest
