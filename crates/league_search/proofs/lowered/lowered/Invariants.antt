use Rattle.std.proofs.Common.{◌≡◌, ◌≤◌, map, take}
use Rattle.std.specs.List.{All}
use Rattle.league_search.specs.Raised.{raised_term}
use Rattle.league_search.proofs.lowered.lowered.Given as goal

-- the terms so far
abbrev pub invariant-loop-term : goal.invariant-loop-term
invariant-loop-term l = record {
  raised : map (raised_term l.games) l.low.items ≡ take l.term-index l.terms;
  from_one : All (λ t. 1 ≤ t.lit.var) l.low.items;
}
