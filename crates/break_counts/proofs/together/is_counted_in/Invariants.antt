use Rattle.std.proofs.Common.{◌≡◌, ◌+◌, ◌-◌, true}
use Rattle.std.specs.List.{list_all, list_any, range_with_len}
use Rattle.break_counts.specs.Sums.{counts}
use Rattle.break_counts.proofs.together.is_counted_in.Given as goal

abbrev pub invariant-loop-distance : goal.invariant-loop-distance
invariant-loop-distance l =
    list_all (λ s. list_any (counts l.league.constraints l.team s) l.summands)
    (range_with_len (l.stretch.first + 1) (l.distance - 1))
    ≡ true
