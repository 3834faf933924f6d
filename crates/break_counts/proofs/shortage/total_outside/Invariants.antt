use Rattle.std.proofs.Common.{◌≡◌, ◌*◌, ◌^◌, ◌≤◌, not, get_or}
use Rattle.std.specs.List.{filter, range_with_len, sum_by}
use Rattle.league.specs.Sets.{is_in}
use Rattle.break_counts.proofs.shortage.total_outside.Given as goal

abbrev pub invariant-loop-k : goal.invariant-loop-k
invariant-loop-k l = record {
  so_far : l.sum ≡ sum_by (λ i. get_or l.numbers i 0) (filter (λ i. not (is_in i l.teams)) (range_with_len 0 l.k));
  small : l.sum ≤ l.k * 2 ^ 32;
}
