use Rattle.std.proofs.Common.{◌≡◌, take}
use Rattle.std.specs.List.{sum_by}
use Rattle.descent.specs.Ready.{hard_cost, soft_cost}
use Rattle.descent.proofs.keep.costs.Given as goal

abbrev pub invariant-loop-kept : goal.invariant-loop-kept
invariant-loop-kept g l = record {
  infeasibility : l.sums.infeasibility ≡ sum_by hard_cost (take l.kept-index l.rules);
  objective : l.sums.objective ≡ sum_by soft_cost (take l.kept-index l.rules);
}
