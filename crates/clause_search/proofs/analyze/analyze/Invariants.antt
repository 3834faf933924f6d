use Rattle.clause_search.specs.Marks.{IsWalked}
use Rattle.clause_search.proofs.analyze.analyze.Given as goal

abbrev pub invariant-walk : goal.invariant-walk
invariant-walk l = IsWalked l.trail l.conflict.row l.start l.roles l.lowest l.k

abbrev pub decreases-walk : goal.decreases-walk
decreases-walk l = l.k
