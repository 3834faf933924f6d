use Rattle.std.proofs.Common.{◌≡◌, ◌+◌, take}
use Rattle.bound_rows.specs.Softening as softening
use Rattle.bound_rows.specs.Bare.{bare_groups, unit_total}
use Rattle.bound_rows.proofs.objective.costs.Given as goal

abbrev pub invariant-loop-group : goal.invariant-loop-group
invariant-loop-group l = record {
  so_far : l.terms.items ≡ softening.costs l.first (bare_groups (take l.group-index l.groups));
  place : l.next ≡ l.first + unit_total (take l.group-index l.groups);
}
