use Rattle.std.proofs.Common.{◌≤◌, length}
use Rattle.explain.specs.Standings.{IsExplained}
use Rattle.explain.proofs.cores.narrow.Given as goal

-- a contradiction, of no more members than at first
abbrev pub invariant-cores : goal.invariant-cores
invariant-cores g l = record {
  explained : IsExplained l.league l.conflicts (g.W.Watch.may_stop l.watch) l.least.members.items l.least.log;
  no_longer : length l.least.members.items ≤ length l.fn.contradiction.members.items;
}

abbrev pub decreases-cores : goal.decreases-cores
decreases-cores g l = length l.least.members.items
