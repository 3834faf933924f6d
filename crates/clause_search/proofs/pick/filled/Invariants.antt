use Rattle.propagate.specs.Trails.{values_of}
use Rattle.clause_search.specs.Turns.{IsFilled}
use Rattle.clause_search.proofs.pick.filled.Given as goal

abbrev pub invariant-loop-before : goal.invariant-loop-before
invariant-loop-before l = IsFilled (values_of l.trail.entries) l.vars l.before l.assignment
