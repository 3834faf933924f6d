use Rattle.league.specs.Counts.{counts_of}
use Rattle.command_prove.proofs.ShownLemmas.{proved-written, replied-by, replied-told}
use Rattle.command_prove.proofs.prove_stages.show_least.Goals as goal

pub proof_reply-requires-clause-written : goal.proof_reply-requires-clause-written
proof_reply-requires-clause-written g c =
    proved-written c.args.league.now (counts_of c.args.schedule.now) c.in_ok-proved.ensures.0
    (g.W.Watch.may_stop c.args.watch.now) c.in_ok-proved.proved c.in_ok-proved.ensures.2

pub returns : goal.returns
returns g c =
    let may_stop = g.W.Watch.may_stop c.args.watch.now in
    replied-by c.args.league.now _ may_stop c.args.schedule.now c.proof_reply.result c.in_ok-proved.ensures.0
    c.in_ok-proved.ensures.1
    (replied-told c.args.league.now c.in_ok-proved.ensures.0 may_stop c.args.schedule.now c.args.counted.cost
    c.in_ok-proved.proved c.proof_reply.result c.requires.assessed c.requires.counted.instance.teams c.requires.accepted
    c.in_ok-proved.ensures.2 c.proof_reply.ensures)
