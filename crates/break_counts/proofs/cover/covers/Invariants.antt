use Rattle.std.proofs.Common.{◌≡◌, true, take}
use Rattle.break_counts.specs.BreakCounts.{covers}
use Rattle.break_counts.proofs.cover.covers.Given as goal

abbrev pub invariant-loop-stretch : goal.invariant-loop-stretch
invariant-loop-stretch l = covers l.slots (take l.stretch-index l.stretches) ≡ true
