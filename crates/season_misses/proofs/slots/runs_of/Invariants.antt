use Rattle.std.proofs.Common.{◌≡◌, ◌≤◌, length, drop}
use Rattle.season_misses.specs.Phrases as phrases
use Rattle.season_misses.proofs.slots.runs_of.Given as goal

-- the runs of the slots that were taken, from behind
abbrev pub invariant-loop-left : goal.invariant-loop-left
invariant-loop-left l = record {
  so_far : l.runs.items ≡ phrases.runs_of (drop l.left l.slots);
  within : l.left ≤ length l.slots;
}

abbrev pub decreases-loop-left : goal.decreases-loop-left
decreases-loop-left l = l.left
