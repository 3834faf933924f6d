-- Lists that are cut where a test passes.
use Rattle.std.specs.Prelude.{◌≡◌, Bool, false, List, [], ◌∷◌, ◌++◌}
use Rattle.std.specs.List.{All}

-- no item passes
abbrev pub Lacks : {X : Type 0} → (X → Bool) → List X → Type 0
Lacks p xs = All (λ x. p x ≡ false) xs

-- items in front of the first part
abbrev pub onto_front : {X : Type 0} → List X → List (List X) → List (List X)
onto_front xs [] = xs ∷ []
onto_front xs (part ∷ parts) = (xs ++ part) ∷ parts
