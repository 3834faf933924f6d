use Rattle.propagate.proofs.WalkLemmas.{Walking}
use Rattle.propagate.proofs.walk.walk.Given as goal

abbrev pub invariant-nodes : goal.invariant-nodes
invariant-nodes l =
    Walking l.fn.path l.path l.watches l.fn.watches.hung l.fn.looked l.fn.falsified l.at l.left l.stopped

abbrev pub decreases-nodes : goal.decreases-nodes
decreases-nodes l = l.left
