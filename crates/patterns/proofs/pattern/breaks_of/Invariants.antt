use Rattle.std.proofs.Common.{◌≡◌, ◌-◌, ◌<◌, ◌≤◌, length}
use Rattle.std.specs.List.{count_by, range_with_len}
use Rattle.patterns.specs.Pattern.{has_break}
use Rattle.patterns.proofs.pattern.breaks_of.Given as goal

abbrev pub invariant-loop-slot : goal.invariant-loop-slot
invariant-loop-slot l = record {
  place : l.slot - 1 ≤ length l.pattern - 1;
  counted : l.breaks ≡ count_by (has_break l.pattern) (range_with_len 1 (l.slot - 1));
  bounded : l.breaks < l.slot;
}
