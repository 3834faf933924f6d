use Rattle.std.proofs.Common.{Option, subst}
use Rattle.std.specs.Prelude.{IfSome}
use Rattle.solve.specs.Tried.{IsSeasonBy}
use Rattle.solve.specs.declared.lower.Season.{Season}
use Rattle.solve.proofs.KeptLemmas.{tried-season}
use Rattle.solve.proofs.attempt.walk_or_search.Goals as goal

pub returns-in-Some : goal.returns-in-Some
returns-in-Some g c =
    tried-season c.args.encoding.now c.args.share.budgets (g.W.Watch.may_stop c.args.watch.now) c.in-Some.season
    (subst
    (λ (o : Option Season). IfSome o (IsSeasonBy c.args.encoding.now c.args.share.budgets.moves
    (g.W.Watch.may_stop c.args.watch.now)))
    c.in-Some.is (rw c.league.ensures at c.in_ok-season.ensures))
