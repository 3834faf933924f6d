use Rattle.rule_core.specs.Table.{table_counts}
use Rattle.deviation.specs.TeamGaps.{AreSummed, IsKept}
use Rattle.deviation.proofs.team_gaps.TeamGaps.of_team.Given as goal

abbrev pub invariant-loop-slot : goal.invariant-loop-slot
invariant-loop-slot l = record {
  kept : IsKept l.slot l.gaps;
  summed : AreSummed l.cells.n (table_counts l.cells) l.min l.team.0 l.slot l.later l.gaps;
}
