use Rattle.walk.specs.Standing.{IsFurther}
use Rattle.walk.proofs.walker.Walker.cool_parts.Given as goal

-- the walk goes on, and its best games aren't worse than at the start
abbrev pub invariant-stretches : goal.invariant-stretches
invariant-stretches g l =
    IsFurther l.league l.initial.self.best.score l.initial.self.left l.self
