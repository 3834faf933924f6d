use Rattle.std.proofs.Common.{◌≤◌}
use Rattle.std.specs.List.{All}
use Rattle.encoding.specs.Variables.{var_count}
use Rattle.solve.proofs.prefer.venues.Given as goal

-- the literals of the teams so far
abbrev pub invariant-loop-team : goal.invariant-loop-team
invariant-loop-team l = All (λ m. m.var ≤ var_count l.encoding) l.lits.items
