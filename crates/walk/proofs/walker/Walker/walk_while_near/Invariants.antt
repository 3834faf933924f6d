use Rattle.walk.specs.Standing.{IsFurther}
use Rattle.walk.proofs.walker.Walker.walk_while_near.Given as goal

-- the walk goes on, and its best games aren't worse than at the start
abbrev pub invariant-walks : goal.invariant-walks
invariant-walks g l = IsFurther l.league l.fn.self.best.score l.fn.self.left l.self
