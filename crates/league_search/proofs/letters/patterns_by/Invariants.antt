use Rattle.std.proofs.Common.{◌≡◌}
use Rattle.league_search.specs.Letters.{lowered, patterns_by}
use Rattle.league_search.proofs.letters.patterns_by.Given as goal

-- the patterns so far
abbrev pub invariant-loop-team : goal.invariant-loop-team
invariant-loop-team l = l.patterns ≡ patterns_by l.encoding.n (lowered l.games l.values) l.team
