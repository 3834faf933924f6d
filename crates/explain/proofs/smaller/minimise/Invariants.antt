use Rattle.explain.specs.Standings.{IsExplained, work}
use Rattle.explain.proofs.smaller.minimise.Given as goal

abbrev pub invariant-tries : goal.invariant-tries
invariant-tries g l = IsExplained l.league l.conflicts (g.W.Watch.may_stop l.watch) l.least.members.items l.least.log

-- what is left to do
abbrev pub decreases-tries : goal.decreases-tries
decreases-tries g l = work l.least.members.items
