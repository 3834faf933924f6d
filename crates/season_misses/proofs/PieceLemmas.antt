-- Lists that are made piece by piece.
use Rattle.std.proofs.Common.{◌≡◌, ℕ, ◌+◌, ◌<◌, List, [], ◌∷◌, ◌++◌, length, map, take, get_or, ap, sym, ◌∙◌}
use Rattle.std.specs.List.{flat_map}
use Rattle.std.proofs.lemmas.List.{flat_map_more, map-append, take_more}

-- the pieces of the items so far, with that of the next item
pub pieces_more : {X Y : Type 0} (f : X → List Y) (xs : List X) (k : ℕ) (d : X) (base old new : List Y) → k < length xs
    → old ≡ base ++ flat_map f (take k xs) → new ≡ old ++ f (get_or xs k d) → new ≡ base ++ flat_map f (take (k + 1) xs)
pieces_more {X} {Y} f xs k d base old new within so_far more =
    more
    ∙ ap (λ (l : List Y). l ++ f (get_or xs k d)) so_far
    ∙ flat_map_more f base (take k xs) (get_or xs k d)
    ∙ ap (λ (l : List X). base ++ flat_map f l) (sym (take_more xs k d within))

-- a value of each item so far, with that of the next item
pub mapped_next : {X Y : Type 0} (f : X → Y) (xs : List X) (k : ℕ) (d : X) (old new : List Y) (y : Y) → k < length xs
    → old ≡ map f (take k xs) → new ≡ old ++ y ∷ [] → y ≡ f (get_or xs k d) → new ≡ map f (take (k + 1) xs)
mapped_next {X} {Y} f xs k d old new y within so_far more is =
    more
    ∙ ap (λ (z : Y). old ++ z ∷ []) is
    ∙ ap (λ (l : List Y). l ++ f (get_or xs k d) ∷ []) so_far
    ∙ sym (map-append f (take k xs) (get_or xs k d ∷ []))
    ∙ ap (map f) (sym (take_more xs k d within))
