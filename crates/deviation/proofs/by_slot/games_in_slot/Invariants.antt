use Rattle.std.proofs.Common.{◌≡◌, ◌≤◌, ◌*◌}
use Rattle.std.specs.List.{range_with_len, sum_by}
use Rattle.rule_core.specs.Table.{table_counts}
use Rattle.deviation.specs.BySlot.{listed_games}
use Rattle.deviation.proofs.by_slot.games_in_slot.Given as goal

abbrev pub invariant-loop-host : goal.invariant-loop-host
invariant-loop-host l = record {
  counted : l.games ≡ sum_by (listed_games l.cells.n (table_counts l.cells) l.meetings.list l.fn.slot.0)
      (range_with_len 0 l.host);
  bounded : l.games ≤ 400000 * l.host;
}
