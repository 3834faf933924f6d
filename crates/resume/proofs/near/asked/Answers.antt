use Rattle.std.proofs.Common.{subst}
use Rattle.solve.proofs.FewLemmas.{round_robin-few}
use Rattle.resume.specs.Answers.{IsResumed, IsResumedSeason}
use Rattle.resume.specs.declared.resumed.Resumed.{Resumed}
use Rattle.resume.specs.declared.resumed.Resumed.TheVariants.{Refuted, Spent}
use Rattle.resume.proofs.NearLemmas.{unsettled-open}
use Rattle.resume.proofs.near.asked.Goals as goal

pub is_settled-requires-clause-few : goal.is_settled-requires-clause-few
is_settled-requires-clause-few g c =
    let season : IsResumedSeason c.args.season.league.now c.args.season.played.now c.args.season.k c.in-Schedule.schedule
    c.in-Schedule.objective =
    subst
    (λ (answer : Resumed). IsResumed c.args.season.league.now c.args.season.played.now c.args.season.k
    c.requires.answer.0 answer)
    c.in-Schedule.is c.requires.answer.1 in
    round_robin-few c.args.season.league.now.n c.args.season.league.now.phased c.in-Schedule.schedule
    c.n-n.ensures.instance.teams season.fit season.resumes.accepted.round_robin

pub is_settled-requires-clause-accepted : goal.is_settled-requires-clause-accepted
is_settled-requires-clause-accepted g c =
    let season : IsResumedSeason c.args.season.league.now c.args.season.played.now c.args.season.k c.in-Schedule.schedule
    c.in-Schedule.objective =
    subst
    (λ (answer : Resumed). IsResumed c.args.season.league.now c.args.season.played.now c.args.season.k
    c.requires.answer.0 answer)
    c.in-Schedule.is c.requires.answer.1 in
    rw c.plan.ensures.league season.resumes.accepted

pub returns-in-Refuted-clause-open_yet : goal.returns-in-Refuted-clause-open_yet
returns-in-Refuted-clause-open_yet g c =
    unsettled-open c.args.season.league.now c.args.season.k c.args.season.played.now (Refuted c.in-Refuted.log)
    c.unsettled-in-Refuted.result c.unsettled-in-Refuted.ensures (λ no. no)

pub returns-in-Spent-clause-open_yet : goal.returns-in-Spent-clause-open_yet
returns-in-Spent-clause-open_yet g c =
    unsettled-open c.args.season.league.now c.args.season.k c.args.season.played.now (Spent c.in-Spent.log)
    c.unsettled-in-Spent.result c.unsettled-in-Spent.ensures (λ no. no)
