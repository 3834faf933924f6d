use Rattle.std.proofs.Common.{◌≡◌, ◌*◌, ◌^◌, ◌<◌, ◌≤◌, take}
use Rattle.std.specs.List.{All}
use Rattle.bound_rows.specs.Sizes.{paid_size}
use Rattle.bound_rows.proofs.count.paid_terms.Given as goal

abbrev pub invariant-loop-constraint : goal.invariant-loop-constraint
invariant-loop-constraint l = record {
  so_far : l.total ≡ paid_size l.n (take l.constraint-index l.constraints);
  most : l.total ≤ 600000000000000 * l.constraint-index;
  small : All (λ c. c.penalty < 2 ^ 32) (take l.constraint-index l.constraints);
}
