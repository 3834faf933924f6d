use Rattle.std.proofs.Common.{◌≡◌, map, take}
use Rattle.clause_search.specs.Kept.{named}
use Rattle.clause_search.proofs.names.name_all.Given as goal

-- the names so far
abbrev pub invariant-loop-number : goal.invariant-loop-number
invariant-loop-number l = l.names.items ≡ map (named l.given l.places) (take l.number-index l.numbers)
