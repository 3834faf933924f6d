use Rattle.std.proofs.Common.{◌≡◌, [], ◌∷◌, map, take}
use Rattle.bound_rows.specs.OneOf.{of_slots}
use Rattle.bound_rows.proofs.parts.slot_parts.Given as goal

abbrev pub invariant-loop-slot : goal.invariant-loop-slot
invariant-loop-slot l = l.made.items
    ≡ map (λ part. of_slots l.class part) (map (λ s. s ∷ []) (take l.slot-index l.slots))
