use Rattle.std.proofs.Common.{◌≤◌}
use Rattle.std.specs.List.{All}
use Rattle.solve.proofs.prefer.true_literals.Given as goal

-- the literals of the variables so far
abbrev pub invariant-loop-before : goal.invariant-loop-before
invariant-loop-before l = All (λ m. m.var ≤ l.vars) l.lits.items
