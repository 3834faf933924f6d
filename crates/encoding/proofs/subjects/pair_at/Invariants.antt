use Rattle.std.proofs.Common.{◌≡◌, ℕ, ◌<◌, get_or, length}
use Rattle.league.specs.Meetings.{pairs_of}
use Rattle.encoding.proofs.subjects.pair_at.Given as goal

abbrev pub invariant-loop-first : goal.invariant-loop-first
invariant-loop-first l = record {
  within : l.further < length (pairs_of l.left);
  same : (other : ℕ × ℕ) → get_or (pairs_of l.left) l.further other ≡ get_or (pairs_of l.teams) l.place other;
}

abbrev pub decreases-loop-first : goal.decreases-loop-first
decreases-loop-first l = length l.left
