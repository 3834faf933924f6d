use Rattle.std.proofs.Common.{◌≡◌, ◌-◌, ◌*◌, ◌≤◌}
use Rattle.std.specs.List.{range_with_len, sum_by}
use Rattle.league.specs.Venues.{home_games}
use Rattle.rule_core.specs.Table.{table_counts}
use Rattle.deviation.proofs.leads.homes_in_each.Given as goal

abbrev pub invariant-loop-slot : goal.invariant-loop-slot
invariant-loop-slot l = record {
  counted : l.games ≡ sum_by (λ s. home_games l.cells.n (table_counts l.cells) l.team.0 s) (range_with_len l.from (l.slot - l.from));
  bounded : l.games ≤ 400000 * (l.slot - l.from);
}
