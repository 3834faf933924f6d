use Rattle.std.proofs.Common.{◌≡◌, ◌≤◌, ◌*◌, take}
use Rattle.std.specs.List.{sum_by}
use Rattle.league.specs.Breaks.{breaks_among}
use Rattle.league.specs.declared.class.Side.TheVariants.{Both}
use Rattle.rule_core.specs.Table.{table_counts}
use Rattle.deviation.proofs.break_sums.all_breaks.Given as goal

abbrev pub invariant-loop-team : goal.invariant-loop-team
invariant-loop-team l = record {
  counted : l.breaks ≡ sum_by (breaks_among l.cells.n (table_counts l.cells) Both l.scope.slots) (take l.team-index l.teams);
  bounded : l.breaks ≤ 156 * l.team-index;
}
