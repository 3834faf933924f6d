use Rattle.std.proofs.Common.{◌≡◌}
use Rattle.patterns.specs.HomeTable.{table_pattern}
use Rattle.patterns.proofs.pattern_set.pattern_from.Given as goal

abbrev pub invariant-loop-slot : goal.invariant-loop-slot
invariant-loop-slot l = l.pattern ≡ table_pattern l.slot l.table l.team
