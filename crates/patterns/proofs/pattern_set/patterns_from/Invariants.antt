use Rattle.std.proofs.Common.{◌≡◌, map}
use Rattle.std.specs.List.{range_with_len}
use Rattle.patterns.specs.HomeTable.{table_pattern}
use Rattle.patterns.proofs.pattern_set.patterns_from.Given as goal

abbrev pub invariant-loop-team : goal.invariant-loop-team
invariant-loop-team l = l.patterns ≡ map (table_pattern l.slots l.table) (range_with_len 0 l.team)
