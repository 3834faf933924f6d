use Rattle.std.proofs.Common.{◌≡◌, take}
use Rattle.league.proofs.league.League.copy.Given as goal

-- the constraints so far
abbrev pub invariant-loop-constraint : goal.invariant-loop-constraint
invariant-loop-constraint l = l.constraints.items ≡ take l.constraint-index l.self.constraints
