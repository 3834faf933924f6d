use Rattle.command_explain.proofs.FoundLemmas.{conflict-each, conflict-writable, replied-conflict, replied-met}
use Rattle.command_explain.proofs.replies.found_reply.Goals as goal

pub conflict_reply-requires-clause-each : goal.conflict_reply-requires-clause-each
conflict_reply-requires-clause-each g c =
    conflict-each c.args.league.now c.args.conflicts (g.W.Watch.may_stop c.args.watch.now) c.in-Conflict.members c.in-Conflict.log c.in-Conflict.cases
    (rw c.in-Conflict.is at c.requires.explanation)

pub conflict_reply-requires-clause-writable : goal.conflict_reply-requires-clause-writable
conflict_reply-requires-clause-writable g c =
    conflict-writable c.args.league.now c.args.conflicts (g.W.Watch.may_stop c.args.watch.now) c.in-Conflict.members c.in-Conflict.log c.in-Conflict.cases
    (rw c.in-Conflict.is at c.requires.explanation)

pub returns-in-Met : goal.returns-in-Met
returns-in-Met g c =
    replied-met c.args.league.now c.args.conflicts (g.W.Watch.may_stop c.args.watch.now) c.in-Met.schedule c.in-Met.objective c.schedule_reply.result
    c.n-n.ensures.instance.teams (rw c.in-Met.is at c.requires.explanation) (λ short. rw c.in-Met.is at c.requires.short short)
    (λ crowded. rw c.in-Met.is at c.requires.crowded crowded)
    (λ is. rw c.in-Met.is at c.requires.few is) c.schedule_reply.ensures.status
    c.schedule_reply.ensures.text

pub returns-in-Conflict : goal.returns-in-Conflict
returns-in-Conflict g c =
    replied-conflict c.args.league.now c.args.conflicts (g.W.Watch.may_stop c.args.watch.now) c.in-Conflict.members c.in-Conflict.log c.in-Conflict.cases
    c.conflict_reply.result c.n-n.ensures.instance.teams (rw c.in-Conflict.is at c.requires.explanation)
    (rw c.in-Conflict.is at c.requires.irreducible) (λ never ample. rw c.in-Conflict.is at c.requires.decided never ample)
    (λ accepted. rw c.in-Conflict.is at c.requires.circle accepted) c.conflict_reply.ensures.status
    c.conflict_reply.ensures.text c.conflict_reply.ensures.log_reads_back c.conflict_reply.ensures.cases_read_back
