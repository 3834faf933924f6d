use Rattle.std.proofs.Common.{◌≡◌, take}
use Rattle.resume.proofs.fixed.copy_all.Given as goal

-- the copies so far
abbrev pub invariant-loop-constraint : goal.invariant-loop-constraint
invariant-loop-constraint l = l.constraints.items ≡ take l.constraint-index l.league.constraints
