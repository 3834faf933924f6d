use Rattle.std.proofs.Common.{◌≡◌, ℕ, ◌+◌, ◌*◌, ◌≤◌}
use Rattle.std.specs.List.{range_with_len, sum_by}
use Rattle.rule_core.specs.Table.{table_counts}
use Rattle.command_show.proofs.cell.early_meetings.Given as goal

abbrev pub invariant-loop-number : goal.invariant-loop-number
invariant-loop-number l = record {
  sum : l.meetings ≡ sum_by (λ (s : ℕ). table_counts l.cells l.first.0 l.second.0 s + table_counts l.cells l.second.0 l.first.0 s) (range_with_len 0 l.number);
  few : l.meetings ≤ 20000 * l.number;
}
