use Rattle.league_search.specs.Raised.{IsPicked}
use Rattle.league_search.proofs.picked.pick.Given as goal

-- the rows of no game among the rows so far
abbrev pub invariant-loop-k : goal.invariant-loop-k
invariant-loop-k l = IsPicked l.games l.rows l.k l.picked.rows l.picked.numbers.items
