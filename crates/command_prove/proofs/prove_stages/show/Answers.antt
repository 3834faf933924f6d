use Rattle.std.proofs.Common.{inl, refl}
use Rattle.robin_watch.specs.Limits.{IsKeptTo}
use Rattle.command_prove.proofs.FloorLemmas.{floor-for}
use Rattle.command_prove.proofs.ShownLemmas.{failed, replied-rejected}
use Rattle.command_prove.proofs.prove_stages.show.Goals as goal

pub returns-then-not-assessed : goal.returns-then-not-assessed
returns-then-not-assessed g c =
    let may_stop = g.W.Watch.may_stop c.args.watch.now in
    replied-rejected c.args.league.now c.args.aim.floor (IsKeptTo c.args.aim.conflicts may_stop) may_stop
    c.args.aim.conflicts c.args.schedule.now c.judgement.result (inl refl)
    (λ accepted. failed c.in_ok-assessed.assessed.feasible c.if-not-assessed.true
    (c.in_ok-assessed.ensures.feasible.1 accepted)) c.judgement.ensures

pub show_least-requires-clause-accepted : goal.show_least-requires-clause-accepted
show_least-requires-clause-accepted g c = c.in_ok-assessed.ensures.feasible.0 c.if-not-assessed.false

pub returns-in-None : goal.returns-in-None
returns-in-None g c = rw c.in-None.is c.show_least.ensures

pub returns : goal.returns
returns g c =
    let may_stop = g.W.Watch.may_stop c.args.watch.now in
    rw c.in-Some.is
    (floor-for c.args.league.now (IsKeptTo c.args.aim.conflicts may_stop) c.in-Some.asked
    c.in_ok-assessed.assessed.objective c.args.schedule.now c.show_floor.result
    (c.in_ok-assessed.ensures.feasible.0 c.if-not-assessed.false) c.in_ok-assessed.ensures.objective
    c.show_floor.ensures)
