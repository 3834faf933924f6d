use Rattle.resume.specs.Fixed.{AreConstraints}
use Rattle.resume.proofs.fixed.add_asked.Given as goal

-- the constraints so far
abbrev pub invariant-loop-slot : goal.invariant-loop-slot
invariant-loop-slot l = AreConstraints l.n l.constraints.items
