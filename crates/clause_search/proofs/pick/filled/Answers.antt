use Rattle.std.proofs.Common.{arith}
use Rattle.propagate.specs.Trails.{values_of}
use Rattle.clause_search.proofs.PickLemmas.{filled_more, filled_start}
use Rattle.clause_search.proofs.pick.filled.Goals as goal

pub loop-before-init : goal.loop-before-init
loop-before-init c =
    filled_start (values_of c.args.trail.now.entries) c.args.vars c.in_ok-assignment.assignment
    c.in_ok-assignment.ensures

pub loop-before-preserved : goal.loop-before-preserved
loop-before-preserved c =
    filled_more (values_of c.args.trail.now.entries) c.args.vars c.loop-before.before c.loop-before.assignment
    c.set.new.self c.is_true-value.result c.value.result c.new-lit.result
    c.new-lit.ensures c.value.ensures c.is_true-value.ensures (omega arith) c.set.ensures c.loop-before.invariant
