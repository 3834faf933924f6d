use Rattle.std.proofs.Common.{ℕ}
use Rattle.descent.specs.declared.score.Score.{Score}
use Rattle.walk.specs.Standing.{IsFurther}
use Rattle.walk.proofs.WalkLemmas.{IsFurther-after, IsFurther-both}
use Rattle.walk.proofs.walker.Walker.search_once.Goals as goal

pub returns-clause-further : goal.returns-clause-further
returns-clause-further g c =
    let league = c.args.league.now in
    let score : Score = c.args.self.now.best.score in
    let left : ℕ = c.args.self.now.left in
    let cooled : IsFurther league score left c.cool.new.self =
    IsFurther-after league c.args.self.now.best c.place.new.self.best left c.place.new.self.left c.cool.new.self
    c.in_ok-place.ensures.best c.in_ok-place.ensures.left c.in_ok-cool.ensures in
    let met : IsFurther league score left c.meet_hard.new.self =
    IsFurther-both league score left c.cool.new.self c.meet_hard.new.self cooled c.in_ok-meet_hard.ensures in
    let circled : IsFurther league score left c.walk_circles.new.self =
    IsFurther-both league score left c.meet_hard.new.self c.walk_circles.new.self met
    c.in_ok-few_breaks.ensures in
    IsFurther-both league score left c.walk_circles.new.self c.lower_soft.new.self circled
    c.in_ok-lower_soft.ensures.further
