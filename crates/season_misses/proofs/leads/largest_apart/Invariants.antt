use Rattle.std.proofs.Common.{◌≡◌, take}
use Rattle.league.specs.Bounds.{largest}
use Rattle.season_misses.specs.Runs.{runs_apart}
use Rattle.season_misses.proofs.leads.largest_apart.Given as goal

-- the largest difference after the slots so far
abbrev pub invariant-loop-slot : goal.invariant-loop-slot
invariant-loop-slot l = l.most ≡ largest (runs_apart l.first l.second) (take l.slot-index l.slots)
