use Rattle.std.proofs.Common.{◌≡◌, take}
use Rattle.std.specs.List.{filter_map}
use Rattle.league_search.specs.Raised.{number_of}
use Rattle.league_search.proofs.raised.raised_hints.Given as goal

-- the hints so far
abbrev pub invariant-loop-hint : goal.invariant-loop-hint
invariant-loop-hint l =
    l.raised.items ≡ filter_map (number_of l.numbers l.all l.before) (take l.hint-index l.hints)
