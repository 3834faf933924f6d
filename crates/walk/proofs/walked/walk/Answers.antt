use Rattle.std.proofs.Common.{◌≤◌, ℕ, subst, sym}
use Rattle.descent.specs.Score.{IsNoWorse}
use Rattle.descent.specs.declared.score.Score.{Score}
use Rattle.league.specs.Counts.{counts_of}
use Rattle.walk.specs.Walked.{IsSeasonOf, league_score}
use Rattle.walk.proofs.WalkLemmas.{accepted-stays, feasible-is}
use Rattle.walk.proofs.walked.walk.Goals as goal

pub returns-clause-season : goal.returns-clause-season
returns-clause-season g c =
    c.in_ok-best.ensures.season c.args.league.now c.in_ok-search.ensures.further.walker.best

pub returns-clause-no_worse : goal.returns-clause-no_worse
returns-clause-no_worse g c =
    subst
    (λ (s : Score). IsNoWorse s (league_score c.args.league.now (counts_of c.args.start.now)))
    (sym c.in_ok-best.ensures.score)
    (subst (λ (s : Score). IsNoWorse c.search.new.self.best.score s) c.in_ok-walker.ensures.score
    c.in_ok-search.ensures.further.no_worse)

pub returns-clause-feasible : goal.returns-clause-feasible
returns-clause-feasible g c =
    let league = c.args.league.now in
    let season : IsSeasonOf league c.in_ok-best.best =
    c.in_ok-best.ensures.season league c.in_ok-search.ensures.further.walker.best in
    feasible-is league c.in_ok-best.best season

pub returns-clause-accepted : goal.returns-clause-accepted
returns-clause-accepted g c accepted =
    let league = c.args.league.now in
    let season : IsSeasonOf league c.in_ok-best.best =
    c.in_ok-best.ensures.season league c.in_ok-search.ensures.further.walker.best in
    let no_worse : IsNoWorse c.in_ok-best.best.score (league_score league (counts_of c.args.start.now)) =
    subst (λ (s : Score). IsNoWorse s (league_score league (counts_of c.args.start.now))) (sym c.in_ok-best.ensures.score)
    (subst (λ (s : Score). IsNoWorse c.search.new.self.best.score s) c.in_ok-walker.ensures.score
    c.in_ok-search.ensures.further.no_worse) in
    accepted-stays league c.in_ok-best.best (counts_of c.args.start.now) season no_worse accepted

pub returns-clause-few : goal.returns-clause-few
returns-clause-few g c =
    subst (λ (k : ℕ). k ≤ 1600) (sym c.in_ok-best.ensures.few) c.in_ok-search.ensures.further.walker.best.few
