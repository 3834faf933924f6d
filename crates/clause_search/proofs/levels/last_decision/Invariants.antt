use Rattle.std.proofs.Common.{◌≡◌, ℕ, ◌<◌, ◌≤◌, length, false}
use Rattle.propagate.specs.Trails.{is_decision}
use Rattle.clause_search.specs.Trails.{entry_at}
use Rattle.clause_search.proofs.levels.last_decision.Given as goal

abbrev pub invariant-places : goal.invariant-places
invariant-places l = record {
  within : l.k ≤ length l.trail.entries;
  forced : (j : ℕ) → l.k ≤ j → j < length l.trail.entries → is_decision (entry_at l.trail.entries j) ≡ false;
}

abbrev pub decreases-places : goal.decreases-places
decreases-places l = l.k
