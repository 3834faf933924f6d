use Rattle.walk.proofs.WalkLemmas.{IsFurther-after, IsFurther-both, IsFurther-same}
use Rattle.walk.proofs.walker.Walker.walk_while_near.Goals as goal

pub walks-init : goal.walks-init
walks-init g c =
    let stands = c.usual_change.new.self in
    IsFurther-after c.args.league.now c.args.self.now.best stands.best c.args.self.now.left stands.left stands
    c.in_ok-usual.ensures.best c.in_ok-usual.ensures.left
    (IsFurther-same c.args.league.now stands c.in_ok-usual.ensures.walker)

pub walks-preserved : goal.walks-preserved
walks-preserved g c =
    IsFurther-both c.args.league.now c.args.self.now.best.score c.args.self.now.left c.walks.self
    c.walk_relabelled.new.self c.walks.invariant c.in_ok-lowest.ensures

pub returns-then-lowest-gt-FAR : goal.returns-then-lowest-gt-FAR
returns-then-lowest-gt-FAR g c =
    IsFurther-both c.args.league.now c.args.self.now.best.score c.args.self.now.left c.walks.self
    c.walk_relabelled.new.self c.walks.invariant c.in_ok-lowest.ensures
