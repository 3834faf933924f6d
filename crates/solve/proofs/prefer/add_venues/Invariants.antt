use Rattle.std.proofs.Common.{◌≤◌}
use Rattle.std.specs.List.{All}
use Rattle.encoding.specs.Variables.{var_count}
use Rattle.solve.proofs.prefer.add_venues.Given as goal

-- the literals of the slots so far
abbrev pub invariant-loop-slot : goal.invariant-loop-slot
invariant-loop-slot l = All (λ m. m.var ≤ var_count l.encoding) l.lits.items
