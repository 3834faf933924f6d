use Rattle.std.proofs.Common.{◌<◌, length, get_or, arith}
use Rattle.std.proofs.lemmas.List.{get_or_default}
use Rattle.rows.specs.Tables.{count_at}
use Rattle.rows.proofs.CancelLemmas.{under_way-end, under_way-start, under_way-step}
use Rattle.rows.proofs.sum.cancel_all.Goals as goal

pub loop-var-init : goal.loop-var-init
loop-var-init c = under_way-start (count_at c.args.counts.now) c.args.order.now c.args.degree c.args.divisor c.args.terms.now.items c.requires.empty

pub loop-var-preserved : goal.loop-var-preserved
loop-var-preserved c =
    let there : c.loop-var.var-index < length c.args.order.now = omega arith in
    let v = get_or c.args.order.now c.loop-var.var-index 0 in
    under_way-step (count_at c.args.counts.now) c.args.order.now c.args.degree c.args.divisor c.loop-var.terms.items c.cancel_from.new.terms.items c.loop-var.left c.in_ok-step.step.0 c.loop-var.next c.in_ok-step.step.1
    c.loop-var.var-index v c.requires.touched c.requires.order there (get_or_default c.args.order.now c.loop-var.var-index 0 v there) c.in_ok-step.ensures.passed c.in_ok-step.ensures.cancelled c.loop-var.invariant

pub returns : goal.returns
returns c = λ top up_to.
    under_way-end (count_at c.args.counts.now) c.args.order.now c.args.degree c.args.divisor c.loop-var.terms.items c.loop-var.left c.loop-var.next c.loop-var.var-index top
    c.requires.touched (omega arith) up_to c.loop-var.invariant
