use Rattle.std.proofs.Common.{◌≡◌, ◌*◌, ◌≤◌, take}
use Rattle.std.specs.List.{flat_map}
use Rattle.rows.specs.Rows.{size_of}
use Rattle.encoding.specs.Keys.{most_literals, rows_of_subject, subjects_of}
use Rattle.encoding.proofs.sizes.counted_terms.Given as goal

abbrev pub invariant-loop-place : goal.invariant-loop-place
invariant-loop-place l = record {
  so_far : l.total ≡ size_of (flat_map (rows_of_subject l.n l.class) (take l.place (subjects_of l.class)));
  most : l.total ≤ 156 * (l.place * most_literals l.class);
}
