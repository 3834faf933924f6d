use Rattle.std.proofs.Common.{◌≡◌, ◌+◌, ◌*◌, ◌≤◌, [], ◌∷◌}
use Rattle.std.specs.List.{range_with_len, sum_by}
use Rattle.league.specs.declared.class.Class.TheVariants.{Se1}
use Rattle.bound_rows.specs.Sizes.{part_size}
use Rattle.bound_rows.proofs.separation.pair_terms.Given as goal

abbrev pub invariant-loop-before : goal.invariant-loop-before
invariant-loop-before l = record {
  so_far : l.total ≡ sum_by (λ v. part_size l.n (Se1 (0 ∷ 1 ∷ []) (v + 1))) (range_with_len 0 l.before);
  most : l.total ≤ 12404 * l.before;
}
