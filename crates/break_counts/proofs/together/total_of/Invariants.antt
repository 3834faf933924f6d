use Rattle.std.proofs.Common.{◌≡◌, ◌-◌, ◌^◌, min, take}
use Rattle.std.specs.List.{sum_by}
use Rattle.break_counts.specs.Sums.{allows}
use Rattle.break_counts.proofs.together.total_of.Given as goal

abbrev pub invariant-loop-summand : goal.invariant-loop-summand
invariant-loop-summand l =
    l.total ≡ min (sum_by (allows l.league.constraints) (take l.summand-index l.summands)) (2 ^ 64 - 1)
