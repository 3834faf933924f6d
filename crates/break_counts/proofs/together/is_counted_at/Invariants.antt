use Rattle.std.proofs.Common.{◌≡◌, false, take}
use Rattle.std.specs.List.{list_any}
use Rattle.break_counts.specs.Sums.{counts}
use Rattle.break_counts.proofs.together.is_counted_at.Given as goal

abbrev pub invariant-loop-summand : goal.invariant-loop-summand
invariant-loop-summand l =
    list_any (counts l.league.constraints l.team l.slot) (take l.summand-index l.summands) ≡ false
