use Rattle.std.proofs.Common.{◌≡◌}
use Rattle.clause_search.proofs.levels.release_all.Given as goal

abbrev pub invariant-loop-k : goal.invariant-loop-k
invariant-loop-k l = l.order.vars ≡ l.fn.order.vars
