-- Lists that grow element by element.
use Rattle.std.proofs.Common.{◌≡◌, ℕ, ◌+◌, ◌<◌, ◌≤◌, Bool, true, false, cond, List, [], ◌∷◌, ◌++◌, length, map, get_or, take}
use Rattle.std.proofs.Common.{ap, sym, ◌∙◌}
use Rattle.std.proofs.lemmas.List.{append-nil, append_assoc, flat_map_more, map_more, map_push, take_all, take_more}
use Rattle.std.proofs.lemmas.List.Elements.{filter_more}
use Rattle.std.specs.List.{filter, flat_map}

-- by what the next element gives
pub grown : {X Y : Type 0} (f : X → List Y) (old now next more : List Y) (xs : List X) (k : ℕ) (d : X) → k < length xs
    → now ≡ old ++ flat_map f (take k xs) → next ≡ now ++ more → more ≡ f (get_or xs k d)
    → next ≡ old ++ flat_map f (take (k + 1) xs)
grown {Y = Y} f old now next more xs k d lt so_far is same =
    is
    ∙ ap (λ (ys : List Y). ys ++ more) so_far
    ∙ ap (λ (ys : List Y). (old ++ flat_map f (take k xs)) ++ ys) same
    ∙ flat_map_more f old (take k xs) (get_or xs k d)
    ∙ ap (λ ys. old ++ flat_map f ys) (sym (take_more xs k d lt))

-- behind the last element
pub grown_by_all : {X Y : Type 0} (f : List X → List Y) (old now : List Y) (xs : List X) (k : ℕ) → length xs ≤ k
    → now ≡ old ++ f (take k xs) → now ≡ old ++ f xs
grown_by_all f old now xs k all so_far = so_far ∙ ap (λ ys. old ++ f ys) (take_all k xs all)

-- by one
pub grown_by_one : {X Y : Type 0} (f : X → Y) (old now next : List Y) (y : Y) (xs : List X) (k : ℕ) (d : X)
    → k < length xs → now ≡ old ++ map f (take k xs) → next ≡ now ++ y ∷ [] → y ≡ f (get_or xs k d)
    → next ≡ old ++ map f (take (k + 1) xs)
grown_by_one {Y = Y} f old now next y xs k d lt so_far is same =
    is
    ∙ ap (λ (ys : List Y). ys ++ y ∷ []) so_far
    ∙ ap (λ (z : Y). (old ++ map f (take k xs)) ++ z ∷ []) same
    ∙ append_assoc old (map f (take k xs)) (f (get_or xs k d) ∷ [])
    ∙ ap (λ (ys : List Y). old ++ ys) (sym (map_more f xs k d lt))

-- by one, or not, as the next element passes a test
module _ {X : Type 0} (p : X → Bool) (xs : List X) (k : ℕ) (d : X) (lt : k < length xs) where
  pub passing_more : p (get_or xs k d) ≡ true → filter p (take (k + 1) xs) ≡ filter p (take k xs) ++ get_or xs k d ∷ []
  passing_more passes =
      filter_more p xs k d lt
      ∙ ap (λ (b : Bool). filter p (take k xs) ++ cond b (get_or xs k d ∷ []) []) passes

  pub passing_same : p (get_or xs k d) ≡ false → filter p (take (k + 1) xs) ≡ filter p (take k xs)
  passing_same fails =
      filter_more p xs k d lt
      ∙ ap (λ (b : Bool). filter p (take k xs) ++ cond b (get_or xs k d ∷ []) []) fails
      ∙ append-nil (filter p (take k xs))

  pub grown_by_passing : {Y : Type 0} (f : X → Y) (old now next : List Y) (y : Y)
      → now ≡ old ++ map f (filter p (take k xs)) → next ≡ now ++ y ∷ [] → y ≡ f (get_or xs k d)
      → p (get_or xs k d) ≡ true → next ≡ old ++ map f (filter p (take (k + 1) xs))
  grown_by_passing {Y = Y} f old now next y so_far is same passes =
      let before = filter p (take k xs) in
      is
      ∙ ap (λ (ys : List Y). ys ++ y ∷ []) so_far
      ∙ ap (λ (z : Y). (old ++ map f before) ++ z ∷ []) same
      ∙ append_assoc old (map f before) (f (get_or xs k d) ∷ [])
      ∙ ap (λ (ys : List Y). old ++ ys) (sym (ap (map f) (passing_more passes) ∙ map_push f before (get_or xs k d)))

  pub same_by_failing : {Y : Type 0} (f : X → Y) (old now next : List Y) → now ≡ old ++ map f (filter p (take k xs))
      → next ≡ now → p (get_or xs k d) ≡ false → next ≡ old ++ map f (filter p (take (k + 1) xs))
  same_by_failing f old now next so_far is fails =
      is ∙ so_far ∙ ap (λ ys. old ++ map f ys) (sym (passing_same fails))
