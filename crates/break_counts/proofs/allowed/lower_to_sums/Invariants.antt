use Rattle.std.proofs.Common.{◌≡◌, ℕ, ◌+◌, ◌<◌, ◌≤◌, min, get_or}
use Rattle.break_counts.proofs.allowed.lower_to_sums.Given as goal

abbrev pub invariant-loop-team : goal.invariant-loop-team
invariant-loop-team l = record {
  before : (i : ℕ) → i < l.team
      → get_or l.table i 0 ≡ min (get_or l.initial.table i 0) (get_or l.home i 0 + get_or l.away i 0);
  after : (i : ℕ) → l.team ≤ i → get_or l.table i 0 ≡ get_or l.initial.table i 0;
}
