use Rattle.std.proofs.Common.{arith, length}
use Rattle.break_counts.proofs.TableLemmas.{table-more}
use Rattle.break_counts.proofs.allowed.lower_by_all.Goals as goal

pub loop-k-preserved : goal.loop-k-preserved
loop-k-preserved c =
    table-more (length c.args.table.now) c.args.constraints.now c.args.stretches.now c.args.side c.loop-k.table
    c.lower.new.table c.loop-k.k c.index-constraints-k.result (omega arith) c.index-constraints-k.is (omega arith)
    c.lower.ensures c.loop-k.invariant
