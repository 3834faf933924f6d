use Rattle.propagate.specs.Trails.{values_of}
use Rattle.clause_search.proofs.PickLemmas.{none_more}
use Rattle.clause_search.proofs.pick.lowest_free.Goals as goal

pub loop-before-preserved : goal.loop-before-preserved
loop-before-preserved c =
    none_more (values_of c.args.trail.now.entries) c.loop-before.before c.new-lit.result c.value.result
    c.new-lit.ensures c.value.ensures c.in_default.not-Free c.loop-before.invariant
