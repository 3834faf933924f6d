use Rattle.std.proofs.Common.{◌≡◌, ◌*◌, ◌≤◌}
use Rattle.std.specs.List.{range_with_len}
use Rattle.rule_core.specs.Table.{table_counts}
use Rattle.command_show.specs.Tallies.{home_among}
use Rattle.command_show.proofs.tallies.home_among.Given as goal

abbrev pub invariant-loop-place : goal.invariant-loop-place
invariant-loop-place l = record {
  sum : l.games ≡ home_among l.cells.n (table_counts l.cells) l.team.0 (range_with_len l.first l.place);
  few : l.games ≤ 400000 * l.place;
}
