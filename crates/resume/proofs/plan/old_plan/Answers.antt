use Rattle.league.proofs.CountLemmas.{counts_of-permutation}
use Rattle.resume.proofs.AnswerLemmas.{passed, plan_resumes}
use Rattle.resume.proofs.plan.old_plan.Goals as goal

pub returns-clause-resumed : goal.returns-clause-resumed
returns-clause-resumed c = λ k limit.
    plan_resumes c.args.league.now c.args.played.now c.in_ok-schedule.schedule c.in_ok-assessment.assessment.objective
    (c.in_ok-assessment.ensures.feasible.0
    (passed c.in_ok-assessment.assessment.feasible c.if-not-assessment.false))
    c.requires.fit c.in_ok-schedule.ensures.permutation c.in_ok-schedule.ensures.in_order
    c.in_ok-assessment.ensures.objective k

pub returns-clause-plan : goal.returns-clause-plan
returns-clause-plan c =
    counts_of-permutation c.args.played.now c.in_ok-schedule.schedule c.in_ok-schedule.ensures.permutation
