use Rattle.std.proofs.Common.{◌≡◌, ◌*◌, ◌≤◌}
use Rattle.std.specs.List.{range_with_len}
use Rattle.league.specs.Breaks.{breaks_among}
use Rattle.league.specs.declared.class.Side.TheVariants.{Both}
use Rattle.rule_core.specs.Table.{table_counts}
use Rattle.command_show.proofs.tallies.breaks_in_all.Given as goal

abbrev pub invariant-loop-number : goal.invariant-loop-number
invariant-loop-number l = record {
  sum : l.breaks ≡ breaks_among l.cells.n (table_counts l.cells) Both (range_with_len 0 l.number) l.team.0;
  few : l.breaks ≤ 2 * l.number;
}
