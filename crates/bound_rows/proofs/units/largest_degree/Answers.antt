use Rattle.std.proofs.Common.{arith}
use Rattle.bound_rows.proofs.GroupLemmas.{degree-all, degree-more}
use Rattle.bound_rows.proofs.units.largest_degree.Goals as goal

pub loop-k-preserved : goal.loop-k-preserved
loop-k-preserved c =
    degree-more c.args.rows.now c.loop-k.k c.loop-k.most c.degree.result _ (omega arith) c.loop-k.invariant
    c.degree.ensures c.max-most.ensures

pub returns : goal.returns
returns c = degree-all c.args.rows.now c.loop-k.k c.loop-k.most (omega arith) c.loop-k.invariant
