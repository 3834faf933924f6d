use Rattle.std.proofs.Common.{◌≡◌, ◌*◌, ◌≤◌, ◌&&◌, ◌==◌, not}
use Rattle.std.specs.List.{count_by, range_with_len, sum_by}
use Rattle.league.specs.Capacity.{is_between}
use Rattle.league.specs.Counts.{teams_of}
use Rattle.encoding.proofs.literal_counts.between_total.Given as goal

abbrev pub invariant-loop-home : goal.invariant-loop-home
invariant-loop-home l = record {
  so_far : l.total ≡ sum_by
      (λ i. count_by (λ j. not (j == i) && is_between l.side l.teams1 l.teams2 (i, j)) (teams_of l.n))
      (range_with_len 0 l.home);
  most : l.total ≤ 40 * l.home;
}
