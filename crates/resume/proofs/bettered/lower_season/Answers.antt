use Rattle.std.proofs.Common.{subst, sym}
use Rattle.resume.specs.Answers.{CostsAtLeast, IsResumedSeason}
use Rattle.resume.specs.declared.resumed.Resumed.{Resumed}
use Rattle.resume.proofs.LowerLemmas.{lower-cost, season-further}
use Rattle.resume.proofs.bettered.lower_season.Goals as goal

pub descend_near-requires-clause-fit : goal.descend_near-requires-clause-fit
descend_near-requires-clause-fit g c =
    let season : IsResumedSeason c.args.league.now c.args.played.now c.args.k c.in-Schedule.schedule
    c.in-Schedule.objective = rw c.in-Schedule.is at c.requires.1 in
    season.fit

pub descend_near-requires-clause-accepted : goal.descend_near-requires-clause-accepted
descend_near-requires-clause-accepted g c =
    let season : IsResumedSeason c.args.league.now c.args.played.now c.args.k c.in-Schedule.schedule
    c.in-Schedule.objective = rw c.in-Schedule.is at c.requires.1 in
    season.resumes.accepted

pub returns-clause-season : goal.returns-clause-season
returns-clause-season g c =
    season-further c.args.league.now c.args.played.now c.args.k c.in-Schedule.schedule c.in-Schedule.objective _
    c.in_ok-end.end (rw c.in-Schedule.is at c.requires.1) c.in_ok-end.ensures

pub returns-clause-no_dearer : goal.returns-clause-no_dearer
returns-clause-no_dearer g c =
    subst (λ (answer : Resumed). CostsAtLeast c.in_ok-end.end.objective answer) (sym c.in-Schedule.is)
    (lower-cost c.args.league.now c.args.played.now c.args.k c.in-Schedule.schedule c.in-Schedule.objective
    c.in_ok-end.end (rw c.in-Schedule.is at c.requires.1) c.in_ok-end.ensures)
