use Rattle.std.proofs.Common.{◌≡◌, take}
use Rattle.std.specs.List.{flat_map}
use Rattle.bound_rows.specs.Parts as parts
use Rattle.bound_rows.proofs.parts.separations_by_pair.Given as goal

abbrev pub invariant-loop-first : goal.invariant-loop-first
invariant-loop-first l = l.made.items ≡ flat_map (parts.se1_parts l.min) (take l.first-index l.pairs)
