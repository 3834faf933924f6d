use Rattle.std.proofs.Common.{◌+◌, arith}
use Rattle.league.specs.Breaks.{breaks_at}
use Rattle.league.specs.declared.class.Side.TheVariants.{Both}
use Rattle.league.proofs.RangeLemmas.{summed}
use Rattle.rule_core.specs.Table.{table_counts}
use Rattle.command_show.proofs.tallies.breaks_in_all.Goals as goal

pub loop-number-preserved : goal.loop-number-preserved
loop-number-preserved c = record {
  sum = summed (breaks_at c.args.cells.now.n (table_counts c.args.cells.now) Both c.args.team.0) c.loop-number.number c.loop-number.breaks
      (c.loop-number.breaks + c.breaks_at-breaks.result) c.loop-number.invariant.sum (omega (arith, c.breaks_at-breaks.ensures.value));
  few = omega (arith, c.loop-number.invariant.few, c.breaks_at-breaks.ensures.few);
}
