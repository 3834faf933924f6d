use Rattle.std.proofs.Common.{◌≡◌, true, take}
use Rattle.break_counts.specs.Sums.{is_counted}
use Rattle.break_counts.proofs.together.is_counted.Given as goal

abbrev pub invariant-loop-stretch : goal.invariant-loop-stretch
invariant-loop-stretch l =
    is_counted l.league.constraints l.summands (take l.stretch-index l.stretches) l.team ≡ true
