use Rattle.std.proofs.Common.{◌≡◌, ◌≤◌, ◌&&◌, ◌==◌, not}
use Rattle.std.specs.List.{count_by, range_with_len}
use Rattle.league.specs.Capacity.{is_between}
use Rattle.encoding.proofs.literal_counts.between_total_at.Given as goal

abbrev pub invariant-loop-away : goal.invariant-loop-away
invariant-loop-away l = record {
  so_far : l.total ≡ count_by
      (λ away. not (away == l.home) && is_between l.side l.teams1 l.teams2 (l.home, away)) (range_with_len 0 l.away);
  most : l.total ≤ l.away;
}
