-- Tests of all elements, and sums: over joined lists, filtered ones and ranges, and where two agree at each element.
use Rattle.std.proofs.Common.{◌≡◌, ℕ, zero, suc, ◌+◌, ◌<◌, ◌≤◌, Bool, true, false, ◌&&◌, cond, List, [], ◌∷◌, map}
use Rattle.std.proofs.Common.{◌-◌, ◌⊎◌, inl, inr, refl, arith, ap, sym, ◌∙◌}
use Rattle.std.proofs.lemmas.Bool.{and_from, and_parts}
use Rattle.std.proofs.lemmas.List.Folds.{list_all-append}
use Rattle.std.proofs.lemmas.List.Sums.{sum_by-cons}
use Rattle.std.specs.List.{filter, flat_map, list_all, range_with_len, sum_by}

module _ {X : Type 0} where
  -- all elements of joined lists pass where those of each list do
  pub list_all-flat_map : {Y : Type 0} (p : Y → Bool) (f : X → List Y) (xs : List X)
      → list_all p (flat_map f xs) ≡ list_all (λ x. list_all p (f x)) xs
  list_all-flat_map p f [] = refl
  list_all-flat_map p f (x ∷ xs) =
      list_all-append p (f x) (flat_map f xs) ∙ ap (λ (b : Bool). list_all p (f x) && b) (list_all-flat_map p f xs)

  -- elements that pass anyway may be left out
  pub list_all-filter : (p q : X → Bool) → ((x : X) → q x ≡ false → p x ≡ true) → (xs : List X)
      → list_all p (filter q xs) ≡ list_all p xs
  list_all-filter p q passes [] = refl
  list_all-filter p q passes (x ∷ xs) = by (list_all-filter p q passes xs) (q x) refl where
    by : list_all p (filter q xs) ≡ list_all p xs → (b : Bool) → q x ≡ b
        → list_all p (cond b (x ∷ filter q xs) (filter q xs)) ≡ (p x && list_all p xs)
    by rest true kept = ap (λ (c : Bool). p x && c) rest
    by rest false out = rest ∙ ap (λ (c : Bool). c && list_all p xs) (sym (passes x out))

  -- two tests that agree where a third passes
  pub list_all-agree : (p f g : X → Bool) → ((x : X) → p x ≡ true → f x ≡ g x) → (xs : List X) → list_all p xs ≡ true
      → list_all f xs ≡ list_all g xs
  list_all-agree p f g same [] pass = refl
  list_all-agree p f g same (x ∷ xs) pass =
      let both = and_parts (p x) (list_all p xs) pass in
      ap (λ (b : Bool). b && list_all f xs) (same x both.0)
      ∙ ap (λ (b : Bool). g x && b) (list_all-agree p f g same xs both.1)

  pub list_all-same : (f g : X → Bool) → ((x : X) → f x ≡ g x) → (xs : List X) → list_all f xs ≡ list_all g xs
  list_all-same f g same [] = refl
  list_all-same f g same (x ∷ xs) =
      ap (λ (b : Bool). b && list_all f xs) (same x) ∙ ap (λ (b : Bool). g x && b) (list_all-same f g same xs)

  -- a test that passes where another does
  pub list_all-weaker : (p f : X → Bool) → ((x : X) → p x ≡ true → f x ≡ true) → (xs : List X) → list_all p xs ≡ true
      → list_all f xs ≡ true
  list_all-weaker p f weaker [] pass = refl
  list_all-weaker p f weaker (x ∷ xs) pass =
      let both = and_parts (p x) (list_all p xs) pass in
      and_from (f x) (list_all f xs) (weaker x both.0) (list_all-weaker p f weaker xs both.1)

  -- what is made of the elements that a filter keeps
  pub list_all-map-filter : {Y : Type 0} (p : Y → Bool) (f : X → Y) (q r : X → Bool)
      → ((x : X) → r x ≡ true → q x ≡ true → p (f x) ≡ true) → (xs : List X) → list_all r xs ≡ true
      → list_all p (map f (filter q xs)) ≡ true
  list_all-map-filter p f q r passes [] pass = refl
  list_all-map-filter p f q r passes (x ∷ xs) pass =
      let both = and_parts (r x) (list_all r xs) pass in
      by both.0 (list_all-map-filter p f q r passes xs both.1) (q x) refl where
        by : r x ≡ true → list_all p (map f (filter q xs)) ≡ true → (b : Bool) → q x ≡ b
            → list_all p (map f (cond b (x ∷ filter q xs) (filter q xs))) ≡ true
        by first rest true kept = and_from (p (f x)) (list_all p (map f (filter q xs))) (passes x first kept) rest
        by first rest false out = rest

  -- the elements that a filter keeps are among all
  pub list_all-part : (p q : X → Bool) (xs : List X) → list_all p xs ≡ true → list_all p (filter q xs) ≡ true
  list_all-part p q [] pass = refl
  list_all-part p q (x ∷ xs) pass =
      let both = and_parts (p x) (list_all p xs) pass in
      by both.0 (list_all-part p q xs both.1) (q x) where
        by : p x ≡ true → list_all p (filter q xs) ≡ true → (b : Bool)
            → list_all p (cond b (x ∷ filter q xs) (filter q xs)) ≡ true
        by first rest true = and_from (p x) (list_all p (filter q xs)) first rest
        by first rest false = rest

  -- two sums whose terms agree where a test passes
  pub sum_by-agree : (p : X → Bool) (f g : X → ℕ) → ((x : X) → p x ≡ true → f x ≡ g x) → (xs : List X)
      → list_all p xs ≡ true → sum_by f xs ≡ sum_by g xs
  sum_by-agree p f g same [] pass = refl
  sum_by-agree p f g same (x ∷ xs) pass =
      let both = and_parts (p x) (list_all p xs) pass in
      omega (arith, sum_by-cons f x xs, sum_by-cons g x xs, same x both.0, sum_by-agree p f g same xs both.1)

-- a test that each number of a range passes
pub list_all-range : (p : ℕ → Bool) (a k : ℕ) → ((i : ℕ) → a ≤ i → i < a + k → p i ≡ true)
    → list_all p (range_with_len a k) ≡ true
list_all-range p a zero passes = refl
list_all-range p a (suc k) passes =
    and_from (p a) (list_all p (range_with_len (a + 1) k)) (passes a (omega arith) (omega arith))
    (list_all-range p (a + 1) k (λ i from within. passes i (omega arith) (omega arith)))

-- a number of a range passes where all do
pub list_all-at : (p : ℕ → Bool) (a k i : ℕ) → list_all p (range_with_len a k) ≡ true → a ≤ i → i < a + k → p i ≡ true
list_all-at p a zero i pass from within = absurd (omega arith)
list_all-at p a (suc k) i pass from within =
    let both = and_parts (p a) (list_all p (range_with_len (a + 1) k)) pass in
    elim (first_or_later from) [
      | inl same ↦ ap p (sym same) ∙ both.0
      | inr later ↦ list_all-at p (a + 1) k i both.1 later (omega arith)
    ] where
      first_or_later : a ≤ i → (a ≡ i) ⊎ (a + 1 ≤ i)
      first_or_later le = grind arith

-- a sum over a range, cut in two
pub sum_by-range-append : (f : ℕ → ℕ) (a k l : ℕ)
    → sum_by f (range_with_len a (k + l)) ≡ sum_by f (range_with_len a k) + sum_by f (range_with_len (a + k) l)
sum_by-range-append f a zero l =
    let length_is : zero + l ≡ l = omega arith in
    let start : a ≡ a + zero = omega arith in
    omega (
      arith,
      ap (λ (i : ℕ). sum_by f (range_with_len a i)) length_is,
      ap (λ (i : ℕ). sum_by f (range_with_len i l)) start,
    )
sum_by-range-append f a (suc k) l =
    let length_is : suc k + l ≡ suc (k + l) = omega arith in
    let start : a + 1 + k ≡ a + suc k = omega arith in
    omega (
      arith,
      ap (λ (i : ℕ). sum_by f (range_with_len a i)) length_is,
      sum_by-cons f a (range_with_len (a + 1) (k + l)),
      sum_by-cons f a (range_with_len (a + 1) k),
      sum_by-range-append f (a + 1) k l,
      ap (λ (i : ℕ). sum_by f (range_with_len i l)) start,
    )

-- a part of a range has no larger sum
pub sum_by-range-part : (f : ℕ → ℕ) (a k b l : ℕ) → a ≤ b → b + l ≤ a + k
    → sum_by f (range_with_len b l) ≤ sum_by f (range_with_len a k)
sum_by-range-part f a k b l from within =
    let before : ℕ = b - a in
    let after : ℕ = a + k - (b + l) in
    let length_is : k ≡ before + (l + after) = omega arith in
    let start : a + before ≡ b = omega arith in
    omega (
      arith,
      ap (λ (i : ℕ). sum_by f (range_with_len a i)) length_is,
      sum_by-range-append f a before (l + after),
      ap (λ (i : ℕ). sum_by f (range_with_len i (l + after))) start,
      sum_by-range-append f b l after,
    )
