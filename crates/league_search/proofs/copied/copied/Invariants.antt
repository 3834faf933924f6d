use Rattle.std.proofs.Common.{◌≡◌, take}
use Rattle.league_search.proofs.copied.copied.Given as goal

-- the rows so far
abbrev pub invariant-loop-k : goal.invariant-loop-k
invariant-loop-k l = l.copy ≡ take l.k l.rows
