use Rattle.walk.specs.Standing.{IsStartIn}
use Rattle.walk.proofs.WalkLemmas.{some-is}
use Rattle.walk.proofs.walker.Walker.restart.Goals as goal

pub stand_at-requires-clause-fit : goal.stand_at-requires-clause-fit
stand_at-requires-clause-fit c =
    let starts : IsStartIn c.args.league.now c.in-Some.start =
    some-is (IsStartIn c.args.league.now) c.in_ok-start.field-0 c.in-Some.start c.in-Some.is c.in_ok-start.ensures in
    starts.fit

pub stand_at-requires-clause-round_robin : goal.stand_at-requires-clause-round_robin
stand_at-requires-clause-round_robin c =
    let starts : IsStartIn c.args.league.now c.in-Some.start =
    some-is (IsStartIn c.args.league.now) c.in_ok-start.field-0 c.in-Some.start c.in-Some.is c.in_ok-start.ensures in
    starts.round_robin
