use Rattle.std.proofs.Common.{◌≡◌, ◌≤◌, ◌*◌, take}
use Rattle.std.specs.List.{sum_by}
use Rattle.league.specs.Venues.{games_on}
use Rattle.rule_core.specs.Table.{table_counts}
use Rattle.deviation.proofs.sums.games_in.Given as goal

abbrev pub invariant-loop-slot : goal.invariant-loop-slot
invariant-loop-slot l = record {
  counted : l.games ≡ sum_by (λ s. games_on l.cells.n (table_counts l.cells) l.side l.team.0 s) (take l.slot-index l.slots);
  bounded : l.games ≤ 800000 * l.slot-index;
}
