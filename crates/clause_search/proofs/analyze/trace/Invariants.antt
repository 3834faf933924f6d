use Rattle.clause_search.specs.Marks.{IsTraced}
use Rattle.clause_search.proofs.analyze.trace.Given as goal

abbrev pub invariant-walk : goal.invariant-walk
invariant-walk l = IsTraced l.trail l.conflict.row l.roles l.k

abbrev pub decreases-walk : goal.decreases-walk
decreases-walk l = l.k
