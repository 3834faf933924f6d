use Rattle.std.proofs.Common.{◌≡◌, ◌*◌, ◌≤◌, take}
use Rattle.bound_rows.specs.Softening as softening
use Rattle.bound_rows.specs.Bare.{bare_groups, unit_total}
use Rattle.bound_rows.proofs.objective.total_cost.Given as goal

abbrev pub invariant-loop-group : goal.invariant-loop-group
invariant-loop-group l = record {
  so_far : l.total ≡ softening.total_cost (bare_groups (take l.group-index l.groups));
  few : l.total ≤ 4294967296 * unit_total (take l.group-index l.groups);
}
