use Rattle.std.proofs.Common.{ℕ, subst, sym, ◌∙◌}
use Rattle.league.specs.Counts.{counts_of}
use Rattle.resume.specs.Nearing.{IsEnd}
use Rattle.resume.specs.Answers.{IsResumed, IsResumedSeason}
use Rattle.resume.specs.Near.{IsAtMost, IsNoFarther, IsOpenNear, changed}
use Rattle.resume.specs.declared.near.Neared.{Neared}
use Rattle.resume.specs.declared.resumed.Resumed.{Resumed}
use Rattle.resume.specs.declared.resumed.Resumed.TheVariants.{Schedule, Refuted, Spent}
use Rattle.solve.proofs.FewLemmas.{round_robin-few}
use Rattle.resume.proofs.NearLemmas.{unsettled-open}
use Rattle.resume.proofs.near.descended.Goals as goal

pub descend_near-requires-clause-few : goal.descend_near-requires-clause-few
descend_near-requires-clause-few g c =
    let season : IsResumedSeason c.args.season.league.now c.args.season.played.now c.args.season.k c.in-Schedule.schedule
    c.in-Schedule.objective =
    subst
    (λ (answer : Resumed). IsResumed c.args.season.league.now c.args.season.played.now c.args.season.k
    c.requires.answer.0 answer)
    c.in-Schedule.is c.requires.answer.1 in
    round_robin-few c.args.season.league.now.n c.args.season.league.now.phased c.in-Schedule.schedule
    c.n-n.ensures.instance.teams season.fit season.resumes.accepted.round_robin

pub descend_near-requires-clause-accepted : goal.descend_near-requires-clause-accepted
descend_near-requires-clause-accepted g c =
    let season : IsResumedSeason c.args.season.league.now c.args.season.played.now c.args.season.k c.in-Schedule.schedule
    c.in-Schedule.objective =
    subst
    (λ (answer : Resumed). IsResumed c.args.season.league.now c.args.season.played.now c.args.season.k
    c.requires.answer.0 answer)
    c.in-Schedule.is c.requires.answer.1 in
    rw c.plan.ensures.league season.resumes.accepted

pub returns-in_ok-end-in-Schedule-clause-answer : goal.returns-in_ok-end-in-Schedule-clause-answer
returns-in_ok-end-in-Schedule-clause-answer g c = λ conflicts first.
    let league = c.args.season.league.now in
    let played = c.args.season.played.now in
    let k = c.args.season.k in
    let end = c.in_ok-end-in-Schedule.end in
    let season : IsResumedSeason league played k c.in-Schedule.schedule c.in-Schedule.objective =
    subst (λ (answer : Resumed). IsResumed league played k conflicts answer) c.in-Schedule.is first in
    let ends : IsEnd league k played (g.W.Watch.may_stop c.args.watch.now) (counts_of c.in-Schedule.schedule) end =
    rw c.plan.ensures.league at (rw c.plan.ensures.k at (rw c.plan.ensures.games at c.in_ok-end-in-Schedule.ensures)) in
    let last : IsResumedSeason league played k end.schedule end.objective = record {
      resumes = record {
        accepted = ends.accepted;
        keeps = λ i j s below. ends.keeps i j s below ∙ season.resumes.keeps i j s below;
      };
      fit = ends.fit;
      in_order = ends.in_order;
      cost = ends.cost;
    } in
    subst (λ (near : Neared). IsResumed league played k conflicts near.answer) (sym c.end_reached.ensures) last

pub returns-in_ok-end-in-Schedule-clause-no_farther : goal.returns-in_ok-end-in-Schedule-clause-no_farther
returns-in_ok-end-in-Schedule-clause-no_farther g c =
    let league = c.args.season.league.now in
    let played = c.args.season.played.now in
    let k = c.args.season.k in
    let end = c.in_ok-end-in-Schedule.end in
    let season : IsResumedSeason league played k c.in-Schedule.schedule c.in-Schedule.objective =
    subst (λ (answer : Resumed). IsResumed league played k c.requires.answer.0 answer) c.in-Schedule.is
    c.requires.answer.1 in
    let ends : IsEnd league k played (g.W.Watch.may_stop c.args.watch.now) (counts_of c.in-Schedule.schedule) end =
    rw c.plan.ensures.league at (rw c.plan.ensures.k at (rw c.plan.ensures.games at c.in_ok-end-in-Schedule.ensures)) in
    let most : IsAtMost (changed k played end.schedule) end.objective (changed k played c.in-Schedule.schedule)
    c.in-Schedule.objective =
    subst
    (λ (cost : ℕ). IsAtMost (changed k played end.schedule) end.objective (changed k played c.in-Schedule.schedule) cost)
    (sym season.cost) ends.no_farther in
    subst (λ (answer : Resumed). IsNoFarther k played answer c.end_reached.result.answer) (sym c.in-Schedule.is)
    (subst
    (λ (near : Neared). IsNoFarther k played (Schedule c.in-Schedule.schedule c.in-Schedule.objective) near.answer)
    (sym c.end_reached.ensures) most)

pub returns-in_ok-end-in-Schedule-clause-open_yet : goal.returns-in_ok-end-in-Schedule-clause-open_yet
returns-in_ok-end-in-Schedule-clause-open_yet g c =
    let league = c.args.season.league.now in
    let played = c.args.season.played.now in
    let k = c.args.season.k in
    let end = c.in_ok-end-in-Schedule.end in
    let ends : IsEnd league k played (g.W.Watch.may_stop c.args.watch.now) (counts_of c.in-Schedule.schedule) end =
    rw c.plan.ensures.league at (rw c.plan.ensures.k at (rw c.plan.ensures.games at c.in_ok-end-in-Schedule.ensures)) in
    subst (λ (near : Neared). IsOpenNear league k played (g.W.Watch.may_stop c.args.watch.now) near)
    (sym c.end_reached.ensures) ends.open_yet

pub returns-in-Refuted-clause-open_yet : goal.returns-in-Refuted-clause-open_yet
returns-in-Refuted-clause-open_yet g c =
    unsettled-open c.args.season.league.now c.args.season.k c.args.season.played.now (Refuted c.in-Refuted.log)
    c.unsettled-in-Refuted.result c.unsettled-in-Refuted.ensures (λ no. no)

pub returns-in-Spent-clause-open_yet : goal.returns-in-Spent-clause-open_yet
returns-in-Spent-clause-open_yet g c =
    unsettled-open c.args.season.league.now c.args.season.k c.args.season.played.now (Spent c.in-Spent.log)
    c.unsettled-in-Spent.result c.unsettled-in-Spent.ensures (λ no. no)
