use Rattle.std.proofs.Common.{◌*◌, ◌^◌, take}
use Rattle.rule_core.specs.Table.{table_counts}
use Rattle.deviation.specs.Assess.{AreAtMost, AreWeightsOf}
use Rattle.deviation.proofs.weights.Weights.of.Given as goal

-- the weights are those of the constraints so far
abbrev pub invariant-loop-constraint : goal.invariant-loop-constraint
invariant-loop-constraint l = record {
  weighed : AreWeightsOf l.n (table_counts l.cells) (take l.constraint-index l.constraint-items) l.weights;
  bounded : AreAtMost (l.constraint-index * 2 ^ 107) l.weights;
}
