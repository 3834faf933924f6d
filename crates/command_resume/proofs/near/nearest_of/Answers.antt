use Rattle.command_resume.proofs.NearLemmas.{near-by}
use Rattle.command_resume.proofs.near.nearest_of.Goals as goal

pub near_reply-requires : goal.near_reply-requires
near_reply-requires g c = record { resumed = (c.in-Ok.ensures.answer.0, c.in-Ok.ensures.answer.2) }

pub returns-in-Ok : goal.returns-in-Ok
returns-in-Ok g c =
    near-by c.args.league.now c.args.played.now c.args.k _ (g.W.Watch.may_stop c.args.watch.now) c.in-Ok.neared
    c.near_reply.result c.in-Ok.ensures.answer.0 c.n-n.ensures.instance.teams c.requires.enough
    c.in-Ok.ensures.answer.1 c.in-Ok.ensures.answer.2 c.in-Ok.ensures.settled c.in-Ok.ensures.open_yet
    c.in-Ok.ensures.plan c.near_reply.ensures
