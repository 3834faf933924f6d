use Rattle.solve.proofs.FewLemmas.{round_robin-few}
use Rattle.command_solve.proofs.TrialLemmas.{replied-trial}
use Rattle.command_solve.proofs.made.found_reply.Goals as goal

pub returns-clause-written : goal.returns-clause-written
returns-clause-written c =
    replied-trial c.args.seed c.args.league.now c.args.solved.now c.in-Schedule.schedule c.in-Schedule.objective
    c.in-Schedule.descent c.schedule_reply.result c.in-Schedule.is c.schedule_reply.ensures.status
    c.schedule_reply.ensures.text

pub schedule_reply-requires : goal.schedule_reply-requires
schedule_reply-requires c =
    let descends = (rw c.in-Schedule.is at c.requires.solution.1).descends in
    record {
      fit = descends.fit;
      few = round_robin-few c.args.league.now.n c.args.league.now.phased c.in-Schedule.descent.first
          c.n-n.ensures.instance.teams descends.fit descends.first.round_robin;
    }
