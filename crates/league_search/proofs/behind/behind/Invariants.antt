use Rattle.std.proofs.Common.{◌≡◌, ◌++◌, take}
use Rattle.league_search.proofs.behind.behind.Given as goal

-- the steps so far
abbrev pub invariant-loop-k : goal.invariant-loop-k
invariant-loop-k l = l.log ≡ l.fn.sums ++ take l.k l.search
