use Rattle.propagate.proofs.LookLemmas.{IsVisiting}
use Rattle.propagate.proofs.settle.visit_rows.Given as goal

abbrev pub invariant-rows : goal.invariant-rows
invariant-rows l = IsVisiting l.fn.path l.path l.fn.looked l.fn.falsified l.at

abbrev pub decreases-rows : goal.decreases-rows
decreases-rows l = l.at
