use Rattle.std.proofs.Common.{Option, subst}
use Rattle.std.specs.Prelude.{IfSome}
use Rattle.solve.specs.Tried.{IsSeasonBy}
use Rattle.solve.specs.declared.lower.Season.{Season}
use Rattle.solve.proofs.KeptLemmas.{solved-season}
use Rattle.solve.proofs.from_season.first_try.Goals as goal

pub returns-in-Some-clause-solution : goal.returns-in-Some-clause-solution
returns-in-Some-clause-solution g c =
    solved-season c.args.league.now c.args.budgets (g.W.Watch.may_stop c.args.watch.now) c.in-Some.season
    c.schedule_found.result
    (subst (λ (o : Option Season). IfSome o (IsSeasonBy c.args.league.now c.args.budgets.moves (g.W.Watch.may_stop c.args.watch.now)))
    c.in-Some.is c.in_ok-season.ensures.season)
    c.schedule_found.ensures.found

pub returns-in-Some-2-clause-solution : goal.returns-in-Some-2-clause-solution
returns-in-Some-2-clause-solution g c =
    solved-season c.args.league.now c.args.budgets (g.W.Watch.may_stop c.args.watch.now) c.in-Some-2.season
    c.schedule_found-in-Some-2.result
    (subst
    (λ (o : Option Season). IfSome o (IsSeasonBy c.args.league.now c.args.budgets.moves
    (g.W.Watch.may_stop c.args.watch.now)))
    c.in-Some-2.is c.in_ok-season-2.ensures.schedule)
    c.schedule_found-in-Some-2.ensures.found

pub returns-clause-solution : goal.returns-clause-solution
returns-clause-solution g c = rw c.in_ok-encoding.ensures at c.search_near.ensures
