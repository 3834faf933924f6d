use Rattle.std.proofs.Common.{◌≡◌, ◌≤◌, ◌*◌}
use Rattle.std.specs.List.{range_with_len, sum_by}
use Rattle.rule_core.specs.Table.{table_counts}
use Rattle.deviation.proofs.CapacityHosts.{at_home_to}
use Rattle.deviation.proofs.opponents.Opponents.games_with_each.Given as goal

abbrev pub invariant-loop-guest : goal.invariant-loop-guest
invariant-loop-guest l = record {
  counted : l.games
      ≡ sum_by (at_home_to (table_counts l.cells) l.self.side l.self.teams1 l.self.teams2 l.fn.slot.0 l.fn.host.0)
      (range_with_len 0 l.guest);
  bounded : l.games ≤ 10000 * l.guest;
}
