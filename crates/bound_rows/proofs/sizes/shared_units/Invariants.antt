use Rattle.std.proofs.Common.{◌≡◌, ◌≤◌, take}
use Rattle.league.specs.Bounds.{largest}
use Rattle.encoding.specs.Keys.{key_of}
use Rattle.bound_rows.specs.Sizes.{key_units}
use Rattle.bound_rows.proofs.sizes.shared_units.Given as goal

abbrev pub invariant-loop-place : goal.invariant-loop-place
invariant-loop-place l = record {
  so_far : l.units ≡ largest (λ place. key_units (key_of l.n l.class l.subject place)) (take l.place-index l.places);
  most : l.units ≤ 4294967295;
}
