use Rattle.std.proofs.Common.{◌+◌, List, arith, length, take, sym, ap, ◌∙◌}
use Rattle.std.specs.List.{fold}
use Rattle.rows.specs.Rows.{Row}
use Rattle.refutation_check.specs.Judged.{Judged, after_step}
use Rattle.refutation_check.proofs.LeanLemmas.{fold-rows, lean-given}
use Rattle.refutation_check.proofs.lean.judge_all.Goals as goal

pub let_go-requires-clause-before : goal.let_go-requires-clause-before
let_go-requires-clause-before c =
    let lean = lean-given c.args.checker.now c.loop-k.checker c.give_step.new.checker c.loop-k.freed c.args.log.now
    c.loop-k.k (omega (arith, c.len-k-end.ensures)) c.loop-k.invariant.lean c.in_ok-give_step.ensures.ok in
    c.requires.before
    ∙ sym (ap (λ (r : List Row). length r)
    (lean.rows ∙ fold-rows c.args.checker.now (take (c.loop-k.k + 1) c.args.log.now)))

pub loop-k-preserved : goal.loop-k-preserved
loop-k-preserved c =
    let full : Judged = fold after_step c.args.checker.now (take (c.loop-k.k + 1) c.args.log.now) in
    let lean = lean-given c.args.checker.now c.loop-k.checker c.give_step.new.checker c.loop-k.freed c.args.log.now
    c.loop-k.k (omega (arith, c.len-k-end.ensures)) c.loop-k.invariant.lean c.in_ok-give_step.ensures.ok in
    record {
      rows = c.in_ok-let_go.ensures.rows ∙ lean.rows ∙ fold-rows c.args.checker.now (take (c.loop-k.k + 1) c.args.log.now);
      lean = c.in_ok-let_go.ensures.lean full lean;
      within = λ _. sym (c.has_room_beside.ensures full lean.bytes) ∙ c.if-not-has_room_beside.false;
    }

-- the row of the step at hand is one too many
pub returns-then-not-has_room_beside-clause-full : goal.returns-then-not-has_room_beside-clause-full
returns-then-not-has_room_beside-clause-full c = λ is.
    let full : Judged = fold after_step c.args.checker.now (take (c.loop-k.k + 1) c.args.log.now) in
    let lean = lean-given c.args.checker.now c.loop-k.checker c.give_step.new.checker c.loop-k.freed c.args.log.now
    c.loop-k.k (omega (arith, c.len-k-end.ensures)) c.loop-k.invariant.lean c.in_ok-give_step.ensures.ok in (
      c.loop-k.k + 1,
      omega (arith, c.len-k-end.ensures),
      sym (c.has_room_beside.ensures full lean.bytes) ∙ c.if-not-has_room_beside.true,
    )
