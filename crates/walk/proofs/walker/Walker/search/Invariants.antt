use Rattle.walk.specs.Standing.{HasKeptHere, IsFurther}
use Rattle.walk.proofs.walker.Walker.search.Given as goal

-- the walk goes on, and its best games aren't worse than where it stands, nor than at the start
abbrev pub invariant-searches : goal.invariant-searches
invariant-searches g l = record {
  further : IsFurther l.league l.initial.self.best.score l.initial.self.left l.self;
  seen : HasKeptHere l.league l.self;
}
