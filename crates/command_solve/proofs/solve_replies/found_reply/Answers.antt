use Rattle.solve.proofs.FewLemmas.{round_robin-few}
use Rattle.command_solve.proofs.SolveFound.{replied-refuted, replied-schedule, replied-spent}
use Rattle.command_solve.proofs.solve_replies.found_reply.Goals as goal

pub returns-in-Schedule-clause-written : goal.returns-in-Schedule-clause-written
returns-in-Schedule-clause-written c =
    replied-schedule c.args.league.now c.args.solved.now c.in-Schedule.schedule c.in-Schedule.objective
    c.in-Schedule.descent c.schedule_reply.result c.in-Schedule.is c.schedule_reply.ensures.status
    c.schedule_reply.ensures.text

pub returns-in-Refuted-clause-written : goal.returns-in-Refuted-clause-written
returns-in-Refuted-clause-written c =
    replied-refuted c.args.league.now c.args.solved.now c.in-Refuted.log c.log_reply.result c.in-Refuted.is
    c.log_reply.ensures.status c.log_reply.ensures.text c.log_reply.ensures.reads_back

pub returns-in-Spent-clause-written : goal.returns-in-Spent-clause-written
returns-in-Spent-clause-written c =
    replied-spent c.args.league.now c.args.solved.now c.in-Spent.log c.in-Spent.patterns c.log_reply-in-Spent.result
    c.in-Spent.is c.log_reply-in-Spent.ensures.status c.log_reply-in-Spent.ensures.text
    c.log_reply-in-Spent.ensures.reads_back

pub schedule_reply-requires-clause-fit : goal.schedule_reply-requires-clause-fit
schedule_reply-requires-clause-fit c = (rw c.in-Schedule.is at c.requires.solution.1).descends.fit

pub schedule_reply-requires-clause-few : goal.schedule_reply-requires-clause-few
schedule_reply-requires-clause-few c =
    let descends = (rw c.in-Schedule.is at c.requires.solution.1).descends in
    round_robin-few c.args.league.now.n c.args.league.now.phased c.in-Schedule.descent.first
    c.n-n.ensures.instance.teams descends.fit descends.first.round_robin
