use Rattle.std.proofs.Common.{◌≡◌, ◌≤◌, take}
use Rattle.std.specs.List.{All}
use Rattle.league_search.proofs.narrowed.narrowed.Given as goal

-- the terms so far
abbrev pub invariant-loop-term : goal.invariant-loop-term
invariant-loop-term l = record {
  same : l.narrow.items ≡ take l.term-index l.terms;
  known : All (λ t. t.lit.var ≤ l.vars) l.narrow.items;
}
