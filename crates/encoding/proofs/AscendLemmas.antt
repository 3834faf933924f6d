-- Lists whose keys ascend: parts, joins, and what else follows.
use Rattle.std.proofs.Common.{◌≡◌, ◌≢◌, ℕ, zero, suc, ◌+◌, ◌*◌, ◌<◌, ◌≤◌, Bool, true, false}
use Rattle.std.proofs.Common.{nat_lt, cond, List, [], ◌∷◌, ◌++◌}
use Rattle.std.proofs.Common.{length, get_or, map, arith, inl, inr}
use Rattle.std.proofs.Math.Nat.{mul-le-mul_right}
use Rattle.std.proofs.lemmas.Bool.{cases_lt, le-ltb, lt-ltb}
use Rattle.std.proofs.lemmas.List.Elements.{All-cons, All-head, All-nil, All-tail, All-weaker}
use Rattle.std.proofs.lemmas.List.Kept.{AllPairs-cons}
use Rattle.std.specs.List.{All, AllPairs, filter, flat_map, range_with_len}
use Rattle.std.specs.declared.cmp.Ordering.{Ordering}
use Rattle.std.specs.declared.cmp.Ordering.TheVariants.{Less}
use Rattle.league.specs.Sets.{IsAscending}
use Rattle.encoding.specs.Ascending.{AscendsBy}

module _ {X : Type 0} (key : X → ℕ) where
  pub AscendsBy-le : (low : ℕ) (xs : List X) (high : ℕ) → AscendsBy key low xs high → low ≤ high
  AscendsBy-le low [] high ascends = ascends
  AscendsBy-le low (x ∷ xs) high ascends = omega (arith, ascends.0, AscendsBy-le (key x + 1) xs high ascends.1)

  -- a lower start
  pub AscendsBy-low : (lower low : ℕ) (xs : List X) (high : ℕ) → lower ≤ low → AscendsBy key low xs high
      → AscendsBy key lower xs high
  AscendsBy-low lower low [] high below ascends = omega (arith, ascends)
  AscendsBy-low lower low (x ∷ xs) high below ascends = (omega (arith, ascends.0), ascends.1)

  -- a higher end
  pub AscendsBy-high : (low : ℕ) (xs : List X) (high higher : ℕ) → high ≤ higher → AscendsBy key low xs high
      → AscendsBy key low xs higher
  AscendsBy-high low [] high higher below ascends = omega (arith, ascends)
  AscendsBy-high low (x ∷ xs) high higher below ascends =
      (ascends.0, AscendsBy-high (key x + 1) xs high higher below ascends.1)

  pub AscendsBy-append : (low : ℕ) (xs : List X) (mid : ℕ) (ys : List X) (high : ℕ) → AscendsBy key low xs mid
      → AscendsBy key mid ys high → AscendsBy key low (xs ++ ys) high
  AscendsBy-append low [] mid ys high first second = AscendsBy-low low mid ys high first second
  AscendsBy-append low (x ∷ xs) mid ys high first second =
      (first.0, AscendsBy-append (key x + 1) xs mid ys high first.1 second)

  pub AscendsBy-filter : (p : X → Bool) (low : ℕ) (xs : List X) (high : ℕ) → AscendsBy key low xs high
      → AscendsBy key low (filter p xs) high
  AscendsBy-filter p low [] high ascends = ascends
  AscendsBy-filter p low (x ∷ xs) high ascends =
      let rest : AscendsBy key (key x + 1) (filter p xs) high = AscendsBy-filter p (key x + 1) xs high ascends.1 in
      elim (p x) as (λ b. AscendsBy key low (cond b (x ∷ filter p xs) (filter p xs)) high) [
        | true ↦ (ascends.0, rest)
        | false ↦ AscendsBy-low low (key x + 1) (filter p xs) high (omega (arith, ascends.0)) rest
      ]

  -- every key is between the bounds
  pub AscendsBy-above : (low : ℕ) (xs : List X) (high : ℕ) → AscendsBy key low xs high → All (λ x. low ≤ key x) xs
  AscendsBy-above low [] high ascends = All-nil (λ x. low ≤ key x)
  AscendsBy-above low (x ∷ xs) high ascends =
      All-cons (λ x. low ≤ key x) x xs ascends.0
      (All-weaker (λ y. key x + 1 ≤ key y) (λ y. low ≤ key y) (λ y above. omega (arith, above, ascends.0)) xs
      (AscendsBy-above (key x + 1) xs high ascends.1))

  pub AscendsBy-below : (low : ℕ) (xs : List X) (high : ℕ) → AscendsBy key low xs high → All (λ x. key x < high) xs
  AscendsBy-below low [] high ascends = All-nil (λ x. key x < high)
  AscendsBy-below low (x ∷ xs) high ascends =
      All-cons (λ x. key x < high) x xs (omega (arith, AscendsBy-le (key x + 1) xs high ascends.1))
      (AscendsBy-below (key x + 1) xs high ascends.1)

  -- there are no more elements than keys
  pub AscendsBy-few : (low : ℕ) (xs : List X) (high : ℕ) → AscendsBy key low xs high → low + length xs ≤ high
  AscendsBy-few low [] high ascends = omega (arith, ascends)
  AscendsBy-few low (x ∷ xs) high ascends = omega (arith, ascends.0, AscendsBy-few (key x + 1) xs high ascends.1)

  -- no two keys are the same
  pub AllPairs-ascending : (low : ℕ) (xs : List X) (high : ℕ) → AscendsBy key low xs high
      → AllPairs (λ a b. key a ≢ key b) xs
  AllPairs-ascending low [] high ascends = λ i j d before within. absurd (omega arith)
  AllPairs-ascending low (x ∷ xs) high ascends =
      AllPairs-cons (λ a b. key a ≢ key b) x xs
      (All-weaker (λ y. key x + 1 ≤ key y) (λ y. key x ≢ key y) (λ y above. omega (arith, above)) xs
      (AscendsBy-above (key x + 1) xs high ascends.1))
      (AllPairs-ascending (key x + 1) xs high ascends.1)

  -- the keys of what the elements are mapped to
  pub AscendsBy-map : {Y : Type 0} (f : Y → X) (low : ℕ) (ys : List Y) (high : ℕ)
      → AscendsBy (λ y. key (f y)) low ys high → AscendsBy key low (map f ys) high
  AscendsBy-map f low [] high ascends = ascends
  AscendsBy-map f low (y ∷ ys) high ascends = (ascends.0, AscendsBy-map f (key (f y) + 1) ys high ascends.1)

  -- each key so much further on
  pub AscendsBy-shift : (base low : ℕ) (xs : List X) (high : ℕ) → AscendsBy key low xs high
      → AscendsBy (λ x. base + key x) (base + low) xs (base + high)
  AscendsBy-shift base low [] high ascends = omega (arith, ascends)
  AscendsBy-shift base low (x ∷ xs) high ascends = (
    omega (arith, ascends.0),
    AscendsBy-low' (base + key x + 1) (base + (key x + 1)) xs (base + high) (omega arith)
        (AscendsBy-shift base (key x + 1) xs high ascends.1),
  ) where
    AscendsBy-low' : (lower low : ℕ) (xs : List X) (high : ℕ) → lower ≤ low
        → AscendsBy (λ x. base + key x) low xs high → AscendsBy (λ x. base + key x) lower xs high
    AscendsBy-low' lower low [] high below ascends = omega (arith, ascends)
    AscendsBy-low' lower low (x ∷ xs) high below ascends = (omega (arith, ascends.0), ascends.1)

-- keys that are the same ascend alike
pub AscendsBy-same : {X : Type 0} (f g : X → ℕ) → ((x : X) → f x ≡ g x) → (low : ℕ) (xs : List X) (high : ℕ)
    → AscendsBy f low xs high → AscendsBy g low xs high
AscendsBy-same f g same low [] high ascends = ascends
AscendsBy-same f g same low (x ∷ xs) high ascends = (
  omega (arith, ascends.0, same x),
  AscendsBy-low g (g x + 1) (f x + 1) xs high (omega (arith, same x))
      (AscendsBy-same f g same (f x + 1) xs high ascends.1),
)

-- a key of each element in a block of its own
pub AscendsBy-blocks : {X : Type 0} (key off : X → ℕ) (base size low : ℕ) (xs : List X) (high : ℕ)
    → All (λ x. off x < size) xs → AscendsBy key low xs high
    → AscendsBy (λ x. base + key x * size + off x) (base + low * size) xs (base + high * size)
AscendsBy-blocks key off base size low [] high within ascends = omega (arith, mul-le-mul_right size ascends)
AscendsBy-blocks {X} key off base size low (x ∷ xs) high within ascends =
    let spread : X → ℕ = λ x. base + key x * size + off x in
    let here : off x < size = All-head (λ x. off x < size) x xs within in (
      omega (arith, mul-le-mul_right size ascends.0),
      AscendsBy-low spread (base + key x * size + off x + 1) (base + (key x + 1) * size) xs (base + high * size)
          (omega (arith, here))
          (AscendsBy-blocks key off base size (key x + 1) xs high (All-tail (λ x. off x < size) x xs within)
          ascends.1),
    )

-- lists of which each is in a block of its own
pub AscendsBy-flat_map : {X Y : Type 0} (key : X → ℕ) (inner : Y → ℕ) (f : X → List Y) (base size low : ℕ)
    (xs : List X) (high : ℕ) → All (λ x. AscendsBy inner (base + key x * size) (f x) (base + (key x + 1) * size)) xs
    → AscendsBy key low xs high → AscendsBy inner (base + low * size) (flat_map f xs) (base + high * size)
AscendsBy-flat_map key inner f base size low [] high each ascends = omega (arith, mul-le-mul_right size ascends)
AscendsBy-flat_map key inner f base size low (x ∷ xs) high each ascends =
    AscendsBy-append inner (base + low * size) (f x) (base + (key x + 1) * size) (flat_map f xs) (base + high * size)
    (AscendsBy-low inner (base + low * size) (base + key x * size) (f x) (base + (key x + 1) * size)
    (omega (arith, mul-le-mul_right size ascends.0))
    (All-head (λ x. AscendsBy inner (base + key x * size) (f x) (base + (key x + 1) * size)) x xs each))
    (AscendsBy-flat_map key inner f base size (key x + 1) xs high
    (All-tail (λ x. AscendsBy inner (base + key x * size) (f x) (base + (key x + 1) * size)) x xs each) ascends.1)

-- a range of numbers
pub AscendsBy-range : (a k high : ℕ) → a + k ≤ high → AscendsBy (λ s. s) a (range_with_len a k) high
AscendsBy-range a zero high within = omega (arith, within)
AscendsBy-range a (suc k) high within = (omega arith, AscendsBy-range (a + 1) k high (omega (arith, within)))

-- numbers below another, and above it
pub AscendsBy-before : (i from low : ℕ) (xs : List ℕ) (high : ℕ) → from ≤ low → from ≤ i
    → AscendsBy (λ x. x) low xs high → AscendsBy (λ x. x) from (filter (λ x. nat_lt x i) xs) i
AscendsBy-before i from low [] high start small ascends = small
AscendsBy-before i from low (x ∷ xs) high start small ascends =
    elim (cases_lt x i) [
      | inl before ↦ rw (lt-ltb x i before) (
        omega (arith, ascends.0),
        AscendsBy-before i (x + 1) (x + 1) xs high (omega arith) (omega (arith, before))
            ascends.1,
      )
      | inr after ↦ rw (le-ltb x i after)
          (AscendsBy-before i from (x + 1) xs high (omega (arith, ascends.0)) small ascends.1)
    ]

pub AscendsBy-after : (i from low : ℕ) (xs : List ℕ) (high : ℕ) → (i < low → from ≤ low) → (low ≤ i → from ≤ i + 1)
    → i < high → AscendsBy (λ x. x) low xs high → AscendsBy (λ x. x) from (filter (λ x. nat_lt i x) xs) high
AscendsBy-after i from low [] high late early within ascends =
    elim (cases_lt i low)
    [ inl after ↦ omega (arith, late after, ascends) | inr before ↦ omega (arith, early before) ]
AscendsBy-after i from low (x ∷ xs) high late early within ascends =
    elim (cases_lt i x) [
      | inl after ↦
          let above : from ≤ x = elim (cases_lt i low)
          [ inl h ↦ omega (arith, late h, ascends.0) | inr h ↦ omega (arith, early h) ] in
          rw (lt-ltb i x after) (
            above,
            AscendsBy-after i (x + 1) (x + 1) xs high (λ h. omega arith) (λ h. omega arith) within
                ascends.1,
          )
      | inr before ↦
          let small : from ≤ i + 1 = early (omega (arith, ascends.0, before)) in
          rw (le-ltb i x before)
          (AscendsBy-after i from (x + 1) xs high (λ h. omega (arith, small)) (λ h. small) within ascends.1)
    ]

-- what ascends in an order by which the keys rise
pub AscendsBy-from_ascending : {X : Type 0} (cmp : X → X → Ordering) (key : X → ℕ) (P : X → Type 0)
    → ((a b : X) → P a → P b → cmp a b ≡ Less → key a < key b) → (low : ℕ) (xs : List X) (high : ℕ) → low ≤ high
    → IsAscending cmp xs → All P xs → All (λ x. low ≤ key x) xs → All (λ x. key x < high) xs
    → AscendsBy key low xs high
AscendsBy-from_ascending cmp key P rises low [] high order ascending all above below = order
AscendsBy-from_ascending cmp key P rises low (x ∷ xs) high order ascending all above below =
    let here : P x = All-head P x xs all in
    let last : key x < high = All-head (λ x. key x < high) x xs below in (
      All-head (λ x. low ≤ key x) x xs above,
      AscendsBy-from_ascending cmp key P rises (key x + 1) xs high (omega (arith, last))
          (λ i j d before within. ascending (suc i) (suc j) d (omega arith) (omega arith))
          (All-tail P x xs all)
          (λ k d within. omega (
            arith,
            rises x (get_or xs k d) here (All-tail P x xs all k d within)
                (ascending 0 (suc k) d (omega arith) (omega arith)),
          ))
          (All-tail (λ x. key x < high) x xs below),
    )
