use Rattle.std.proofs.Common.{◌≡◌, ◌≤◌, ◌*◌, take}
use Rattle.std.specs.List.{sum_by}
use Rattle.rule_core.specs.Table.{table_counts}
use Rattle.rule_core.proofs.meetings.games_between.Given as goal

abbrev pub invariant-loop-slot : goal.invariant-loop-slot
invariant-loop-slot l = record {
  counted : l.games ≡ sum_by (λ s. table_counts l.cells l.home.0 l.away.0 s) (take l.slot-index l.slots);
  bounded : l.games ≤ 10000 * l.slot-index;
}
