use Rattle.std.proofs.Common.{drop}
use Rattle.rows.specs.Tables.{AreTouched, count_at}
use Rattle.rows.proofs.sum.clear_touched.Given as goal

abbrev pub invariant-loop-var : goal.invariant-loop-var
invariant-loop-var l = AreTouched (count_at l.counts) (drop l.var-index l.touched)
