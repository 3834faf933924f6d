use Rattle.std.proofs.Common.{◌≡◌, ◌*◌, ◌^◌, ◌≤◌, not, get_or}
use Rattle.std.specs.List.{filter, range_with_len, sum_by}
use Rattle.break_counts.specs.Sums.{is_counted}
use Rattle.break_counts.proofs.together.total_beside.Given as goal

abbrev pub invariant-loop-team : goal.invariant-loop-team
invariant-loop-team l = record {
  so_far : l.sum
      ≡ sum_by (λ i. get_or l.numbers i 0)
      (filter (λ i. not (is_counted l.league.constraints l.summands l.stretches i)) (range_with_len 0 l.team));
  small : l.sum ≤ l.team * 2 ^ 32;
}
