use Rattle.std.proofs.Common.{ℕ}
use Rattle.descent.specs.declared.score.Score.{Score}
use Rattle.walk.specs.Standing.{IsFurther}
use Rattle.walk.proofs.WalkLemmas.{IsFurther-after, IsFurther-both}
use Rattle.walk.proofs.walker.Walker.walk_relabelled.Goals as goal

pub returns-then-lowest-eq0 : goal.returns-then-lowest-eq0
returns-then-lowest-eq0 g c =
    IsFurther-after c.args.league.now c.args.self.now.best c.stand_at.new.self.best c.args.self.now.left
    c.stand_at.new.self.left c.walk_together.new.self c.in_ok-stand_at.ensures.best c.in_ok-stand_at.ensures.left
    c.in_ok-lowest.ensures

pub returns-then-sum-gt0 : goal.returns-then-sum-gt0
returns-then-sum-gt0 g c =
    IsFurther-both c.args.league.now c.args.self.now.best.score c.args.self.now.left c.walk_together.new.self
    c.meet_hard.new.self
    (IsFurther-after c.args.league.now c.args.self.now.best c.stand_at.new.self.best c.args.self.now.left
    c.stand_at.new.self.left c.walk_together.new.self c.in_ok-stand_at.ensures.best c.in_ok-stand_at.ensures.left
    c.in_ok-lowest.ensures) c.in_ok-sum.ensures

pub returns : goal.returns
returns g c =
    let league = c.args.league.now in
    let score : Score = c.args.self.now.best.score in
    let left : ℕ = c.args.self.now.left in
    let walked : IsFurther league score left c.walk_together.new.self =
    IsFurther-after league c.args.self.now.best c.stand_at.new.self.best left c.stand_at.new.self.left
    c.walk_together.new.self c.in_ok-stand_at.ensures.best c.in_ok-stand_at.ensures.left c.in_ok-lowest.ensures in
    let met : IsFurther league score left c.meet_hard.new.self =
    IsFurther-both league score left c.walk_together.new.self c.meet_hard.new.self walked
    c.in_ok-sum.ensures in
    IsFurther-both league score left c.meet_hard.new.self c.walk_together-2.new.self met c.in_ok-walk_together.ensures
