-- Sets of the items that are read one by one.
use Rattle.std.specs.Prelude.{List, Ok}
use Rattle.std.specs.List.{fold}
use Rattle.std.specs.declared.cmp.Ordering.{Ordering}
use Rattle.robinx.specs.Fronts.{◌>>=◌}
use Rattle.robinx.specs.Values.{Reading}
use Rattle.league.specs.Sets.{with_item}

-- a set with more items, one after the other
abbrev pub with_items : {X : Type 0} → (X → X → Ordering) → List X → List X → List X
with_items cmp set items = fold (λ s x. with_item cmp x s) set items

-- a set with the items that are read
abbrev pub gathered : {X : Type 0} → (X → X → Ordering) → List X → Reading (List X) → Reading (List X)
gathered cmp set read = read >>= λ items. Ok (with_items cmp set items)
