use Rattle.std.proofs.Common.{◌≡◌}
use Rattle.league_search.specs.Letters.{letters_of, lowered}
use Rattle.league_search.proofs.letters.pattern_by.Given as goal

-- the letters so far
abbrev pub invariant-loop-slot : goal.invariant-loop-slot
invariant-loop-slot l = l.pattern ≡ letters_of l.encoding.n (lowered l.games l.values) l.slot l.team.0
