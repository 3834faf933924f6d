use Rattle.std.proofs.Common.{arith}
use Rattle.std.proofs.lemmas.List.Sums.{sum_by_more}
use Rattle.league.specs.Breaks.{breaks_among}
use Rattle.league.specs.declared.class.Side.TheVariants.{Both}
use Rattle.rule_core.specs.Table.{table_counts}
use Rattle.deviation.proofs.break_sums.all_breaks.Goals as goal

pub team_breaks-breaks-requires-clause-team : goal.team_breaks-breaks-requires-clause-team
team_breaks-breaks-requires-clause-team c = c.requires.teams c.loop-team.team-index 0 c.loop-team-test.true

pub loop-team-preserved : goal.loop-team-preserved
loop-team-preserved c = record {
  counted = omega (arith, c.loop-team.invariant.counted, c.team_breaks-breaks.ensures.breaks, sum_by_more (breaks_among c.args.cells.now.n (table_counts c.args.cells.now) Both c.args.scope.now.slots) c.args.teams.now c.loop-team.team-index 0 c.loop-team-test.true);
  bounded = omega (arith, c.loop-team.invariant.bounded, c.team_breaks-breaks.ensures.at_most);
}
