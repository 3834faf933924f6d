use Rattle.std.proofs.Common.{◌≡◌, map, take}
use Rattle.league_search.specs.Raised.{raised_literal}
use Rattle.league_search.proofs.raised.raised_clause.Given as goal

-- the literals so far
abbrev pub invariant-loop-lit : goal.invariant-loop-lit
invariant-loop-lit l = l.raised.items ≡ map (raised_literal l.games) (take l.lit-index l.clause)
