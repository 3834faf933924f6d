use Rattle.std.proofs.Common.{◌≡◌, ◌≤◌, ◌*◌}
use Rattle.std.specs.List.{range_with_len, sum_by}
use Rattle.rule_core.specs.Table.{table_counts}
use Rattle.deviation.specs.BySlot.{listed}
use Rattle.deviation.proofs.by_slot.games_with_each.Given as goal

abbrev pub invariant-loop-guest : goal.invariant-loop-guest
invariant-loop-guest l = record {
  counted : l.games
      ≡ sum_by (λ j. listed l.meetings.list l.fn.host.0 j * table_counts l.cells l.fn.host.0 j l.fn.slot.0)
      (range_with_len 0 l.guest);
  bounded : l.games ≤ 10000 * l.guest;
}
