use Rattle.std.proofs.Common.{◌≡◌, ◌&&◌, false, take}
use Rattle.std.specs.List.{list_any}
use Rattle.break_counts.specs.BreakCounts.{is_few_with}
use Rattle.break_counts.proofs.shortage.first_few.Given as goal

abbrev pub invariant-loop-constraint : goal.invariant-loop-constraint
invariant-loop-constraint l =
    list_any (λ c. c.hard && is_few_with l.league.n l.league.constraints l.stretches c.class)
    (take l.constraint-index l.constraints) ≡ false
