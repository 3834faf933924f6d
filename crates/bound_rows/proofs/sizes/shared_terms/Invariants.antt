use Rattle.std.proofs.Common.{◌≡◌, ◌*◌, ◌≤◌, take}
use Rattle.std.specs.List.{sum_by}
use Rattle.encoding.specs.Keys.{key_of}
use Rattle.bound_rows.specs.Sizes.{key_rows_size}
use Rattle.bound_rows.proofs.sizes.shared_terms.Given as goal

abbrev pub invariant-loop-place : goal.invariant-loop-place
invariant-loop-place l = record {
  so_far : l.total ≡ sum_by
      (λ place. key_rows_size l.units (key_of l.n l.class l.subject place)) (take l.place-index l.places);
  most : l.total ≤ 8600000000 * l.place-index;
}
