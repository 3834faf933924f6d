use Rattle.std.proofs.Common.{◌≤◌}
use Rattle.std.specs.List.{All}
use Rattle.encoding.specs.Variables.{x_count}
use Rattle.resume.proofs.plan.preferred.Given as goal

-- the literals of the games so far
abbrev pub invariant-loop-game : goal.invariant-loop-game
invariant-loop-game l = All (λ m. m.var ≤ x_count l.n) l.lits.items
