use Rattle.std.proofs.Common.{◌≤◌}
use Rattle.std.specs.List.{All}
use Rattle.league_search.proofs.break_rows.add_sum.Given as goal

-- the parts so far
abbrev pub invariant-loop-row : goal.invariant-loop-row
invariant-loop-row l = All (λ part. 1 ≤ part.factor) l.parts.items
