use Rattle.robin_watch.specs.Limits.{IsKeptTo}
use Rattle.command_prove.proofs.FloorLemmas.{replied-floor, sought-written}
use Rattle.command_prove.proofs.prove_stages.show_floor.Goals as goal

pub floor_reply-requires-clause-written : goal.floor_reply-requires-clause-written
floor_reply-requires-clause-written g c =
    sought-written c.args.league.now _ c.in_ok-proved.ensures.0 c.in_ok-proved.proved c.in_ok-proved.ensures.2

pub returns : goal.returns
returns g c =
    replied-floor c.args.league.now (IsKeptTo c.args.conflicts (g.W.Watch.may_stop c.args.watch.now)) c.args.asked
    c.args.counted.cost _ c.in_ok-proved.proved c.floor_reply.result c.lower-bound.ensures c.requires.instance.teams
    c.in_ok-proved.ensures c.floor_reply.ensures
