use Rattle.rule_core.specs.Table.{table_counts}
use Rattle.deviation.proofs.TeamLemmas.{AreDone}
use Rattle.deviation.proofs.team_gaps.TeamGaps.add_each.Given as goal

abbrev pub invariant-loop-other : goal.invariant-loop-other
invariant-loop-other l = AreDone l.cells.n (table_counts l.cells) l.min l.team.0 l.slot l.other-index l.later l.fn.self
    l.self
