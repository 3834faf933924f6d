use Rattle.std.proofs.Common.{arith, get_or}
use Rattle.rule_core.specs.Table.{table_counts}
use Rattle.deviation.proofs.TeamLemmas.{summed-all, summed-none}
use Rattle.deviation.proofs.team_gaps.TeamGaps.of_team.Goals as goal

pub loop-slot-init : goal.loop-slot-init
loop-slot-init c = record {
  kept = c.none-gaps.ensures.kept;
  summed = summed-none c.args.cells.now.n (table_counts c.args.cells.now) c.args.min c.args.team.0
      c.none-gaps.result c.args.later.now c.none-gaps.ensures.next c.none-gaps.ensures.totals;
}

pub returns-clause-totals : goal.returns-clause-totals
returns-clause-totals c k d lt = summed-all c.args.cells.now.n (table_counts c.args.cells.now) c.args.min
    c.args.team.0 c.loop-slot.slot c.loop-slot.gaps (get_or c.args.later.now k d) (omega arith)
    (c.loop-slot.invariant.summed k d lt)
