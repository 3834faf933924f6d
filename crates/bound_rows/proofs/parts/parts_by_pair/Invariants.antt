use Rattle.std.proofs.Common.{◌≡◌, map, take}
use Rattle.bound_rows.specs.OneOf.{of_pair}
use Rattle.bound_rows.proofs.parts.parts_by_pair.Given as goal

abbrev pub invariant-loop-first : goal.invariant-loop-first
invariant-loop-first l = l.made.items ≡ map (λ p. of_pair l.class p) (take l.first-index l.pairs)
