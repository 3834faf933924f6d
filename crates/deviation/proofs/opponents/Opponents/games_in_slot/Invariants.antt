use Rattle.std.proofs.Common.{◌≡◌, ◌≤◌, ◌*◌, take}
use Rattle.std.specs.List.{sum_by}
use Rattle.rule_core.specs.Table.{table_counts}
use Rattle.deviation.proofs.CapacityHosts.{hosted}
use Rattle.deviation.proofs.opponents.Opponents.games_in_slot.Given as goal

abbrev pub invariant-loop-host : goal.invariant-loop-host
invariant-loop-host l = record {
  counted : l.games
      ≡ sum_by (hosted (table_counts l.cells) l.self.side l.self.teams1 l.self.teams2 l.fn.slot.0 l.cells.n)
      (take l.host-index l.hosts);
  bounded : l.games ≤ 400000 * l.host-index;
}
