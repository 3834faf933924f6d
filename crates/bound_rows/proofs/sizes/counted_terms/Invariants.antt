use Rattle.std.proofs.Common.{◌≡◌, ◌*◌, ◌≤◌, take}
use Rattle.std.specs.List.{sum_by}
use Rattle.encoding.specs.Keys.{subjects_of}
use Rattle.bound_rows.specs.Sizes.{subject_size}
use Rattle.bound_rows.proofs.sizes.counted_terms.Given as goal

abbrev pub invariant-loop-place : goal.invariant-loop-place
invariant-loop-place l = record {
  so_far : l.total ≡ sum_by (subject_size l.n l.class) (take l.place (subjects_of l.class));
  most : l.total ≤ 1716000000000 * l.place;
}
