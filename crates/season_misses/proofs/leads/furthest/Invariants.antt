use Rattle.std.proofs.Common.{◌≡◌, ◌==◌, drop}
use Rattle.std.specs.List.{find}
use Rattle.season_misses.specs.Runs.{runs_apart}
use Rattle.season_misses.proofs.leads.furthest.Given as goal

-- none of the slots so far is that of the largest difference
abbrev pub invariant-loop-slot : goal.invariant-loop-slot
invariant-loop-slot l =
    find (λ s. runs_apart l.first l.second s == l.most) l.slots
    ≡ find (λ s. runs_apart l.first l.second s == l.most) (drop l.slot-index l.slots)
