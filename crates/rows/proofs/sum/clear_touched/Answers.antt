use Rattle.std.proofs.Common.{◌<◌, length, get_or, arith}
use Rattle.std.proofs.lemmas.List.{get_or_default}
use Rattle.rows.proofs.ClearLemmas.{cleared_end, cleared_step}
use Rattle.rows.proofs.sum.clear_touched.Goals as goal

pub loop-var-preserved : goal.loop-var-preserved
loop-var-preserved c =
    let there : c.loop-var.var-index < length c.args.touched.now = omega arith in
    let v = get_or c.args.touched.now c.loop-var.var-index 0 in
    cleared_step c.loop-var.counts c.clear_place.new.counts c.clear_place-in-loop-var.new.counts c.args.touched.now c.loop-var.var-index v there
    (get_or_default c.args.touched.now c.loop-var.var-index 0 v there) c.loop-var.invariant c.clear_place.ensures c.clear_place-in-loop-var.ensures

pub returns : goal.returns
returns c = cleared_end c.loop-var.counts c.args.touched.now c.loop-var.var-index (omega arith) c.loop-var.invariant
