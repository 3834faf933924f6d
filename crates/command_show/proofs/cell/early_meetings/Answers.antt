use Rattle.std.proofs.Common.{◌+◌, arith}
use Rattle.rule_core.specs.Table.{table_counts}
use Rattle.league.proofs.RangeLemmas.{summed}
use Rattle.command_show.proofs.cell.early_meetings.Goals as goal

pub loop-number-preserved : goal.loop-number-preserved
loop-number-preserved c = record {
  sum = summed (λ s. table_counts c.args.cells.now c.args.first.0 c.args.second.0 s + table_counts c.args.cells.now c.args.second.0 c.args.first.0 s)
      c.loop-number.number c.loop-number.meetings (c.loop-number.meetings + c.between-meetings.result) c.loop-number.invariant.sum (omega (arith, c.between-meetings.ensures.games));
  few = omega (arith, c.loop-number.invariant.few, c.between-meetings.ensures.at_most);
}
