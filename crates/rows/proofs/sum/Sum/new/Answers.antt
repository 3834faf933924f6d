use Rattle.rows.proofs.TableLemmas.{IsKept-none}
use Rattle.rows.proofs.sum.Sum.new.Goals as goal

pub invariant_of-result : goal.invariant_of-result
invariant_of-result c = rw (c.new.ensures.items, c.new-2.ensures.items) IsKept-none
