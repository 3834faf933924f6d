use Rattle.rows.specs.Tables.{count_at}
use Rattle.rows.proofs.CancelLemmas.{IsUnderWay}
use Rattle.rows.proofs.sum.cancel_all.Given as goal

abbrev pub invariant-loop-var : goal.invariant-loop-var
invariant-loop-var l = IsUnderWay (count_at l.counts) l.order l.degree l.divisor l.terms.items l.left l.next l.var-index
