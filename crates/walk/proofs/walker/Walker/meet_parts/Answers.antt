use Rattle.walk.proofs.WalkLemmas.{IsFurther-both, IsFurther-same}
use Rattle.walk.proofs.walker.Walker.meet_parts.Goals as goal

pub stretches-init : goal.stretches-init
stretches-init g c = IsFurther-same c.args.league.now c.args.self.now c.requires.walker

pub stretches-preserved : goal.stretches-preserved
stretches-preserved g c =
    IsFurther-both c.args.league.now c.args.self.now.best.score c.args.self.now.left c.stretches.self c.stretch.new.self
    c.stretches.invariant c.in_ok-sum.ensures

pub returns-then-sum-eq0 : goal.returns-then-sum-eq0
returns-then-sum-eq0 g c =
    IsFurther-both c.args.league.now c.args.self.now.best.score c.args.self.now.left c.stretches.self c.stretch.new.self
    c.stretches.invariant c.in_ok-sum.ensures
