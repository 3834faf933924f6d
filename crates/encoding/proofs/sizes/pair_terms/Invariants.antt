use Rattle.std.proofs.Common.{◌≡◌, ◌*◌, ◌≤◌, take}
use Rattle.std.specs.List.{flat_map}
use Rattle.rows.specs.Rows.{size_of}
use Rattle.encoding.specs.Keys.{key_of, most_literals, rows_of_key}
use Rattle.encoding.proofs.sizes.pair_terms.Given as goal

abbrev pub invariant-loop-place : goal.invariant-loop-place
invariant-loop-place l = record {
  so_far : l.total ≡ size_of
      (flat_map (λ place. rows_of_key (key_of l.n l.class l.subject place)) (take l.place-index l.places));
  most : l.total ≤ 2 * (l.place-index * most_literals l.class);
}
