-- Sums over a range of numbers in which at most one term counts, and sums over lists of which something holds.
use Rattle.std.proofs.Common.{◌≡◌, ◌≢◌, ℕ, ◌+◌, ◌-◌, ◌*◌, ◌<◌, ◌≤◌, zero, suc, List, [], ◌∷◌, inl, inr, refl, arith, ap}
use Rattle.std.proofs.lemmas.Bool.{cases_eq}
use Rattle.std.proofs.lemmas.List.Elements.{All-nil, All-cons, All-head, All-tail, All-append}
use Rattle.std.proofs.lemmas.List.Sums.{sum_by-cons}
use Rattle.std.specs.List.{All, flat_map, range_with_len, sum_by}
use Rattle.league.proofs.SumLemmas.{sum_by-add, sum_by-same}

-- a sum of zeros
pub sum_by-range_none : (f : ℕ → ℕ) (a k : ℕ) → ((x : ℕ) → a ≤ x → x < a + k → f x ≡ 0) → sum_by f (range_with_len a k) ≡ 0
sum_by-range_none f a zero none = refl
sum_by-range_none f a (suc k) none =
    let here : f a ≡ 0 = none a (omega arith) (omega arith) in
    let rest : sum_by f (range_with_len (a + 1) k) ≡ 0 = sum_by-range_none f (a + 1) k (λ x low high. none x (omega arith) (omega arith)) in
    omega (arith, sum_by-cons f a (range_with_len (a + 1) k), here, rest)

-- a sum of zeros and one term
pub sum_by-range_one : (f : ℕ → ℕ) (a k y : ℕ) → a ≤ y → y < a + k → ((x : ℕ) → a ≤ x → x < a + k → x ≢ y → f x ≡ 0) → sum_by f (range_with_len a k) ≡ f y
sum_by-range_one f a zero y low high none = absurd (omega arith)
sum_by-range_one f a (suc k) y low high none =
    elim (cases_eq a y) as (λ _. sum_by f (range_with_len a (suc k)) ≡ f y) [
      | inl same ↦
          let rest : sum_by f (range_with_len (a + 1) k) ≡ 0 = sum_by-range_none f (a + 1) k (λ x l h. none x (omega arith) (omega arith) (λ e. omega arith)) in
          omega (arith, sum_by-cons f a (range_with_len (a + 1) k), rest, ap f same)
      | inr other ↦
          let here : f a ≡ 0 = none a (omega arith) (omega arith) other in
          let rest : sum_by f (range_with_len (a + 1) k) ≡ f y = sum_by-range_one f (a + 1) k y (omega arith) (omega arith) (λ x l h ne. none x (omega arith) (omega arith) ne) in
          omega (arith, sum_by-cons f a (range_with_len (a + 1) k), here, rest)
    ]

-- sums of terms that are equal in the range
pub sum_by-range_same : (f g : ℕ → ℕ) (a k : ℕ) → ((x : ℕ) → a ≤ x → x < a + k → f x ≡ g x) → sum_by f (range_with_len a k) ≡ sum_by g (range_with_len a k)
sum_by-range_same f g a zero same = refl
sum_by-range_same f g a (suc k) same =
    let here : f a ≡ g a = same a (omega arith) (omega arith) in
    let rest : sum_by f (range_with_len (a + 1) k) ≡ sum_by g (range_with_len (a + 1) k) = sum_by-range_same f g (a + 1) k (λ x low high. same x (omega arith) (omega arith)) in
    omega (arith, sum_by-cons f a (range_with_len (a + 1) k), sum_by-cons g a (range_with_len (a + 1) k), here, rest)

-- a sum whose first term is 0
pub sum_by-range_late : (f : ℕ → ℕ) (k : ℕ) → 1 ≤ k → f 0 ≡ 0 → sum_by f (range_with_len 0 k) ≡ sum_by f (range_with_len 1 (k - 1))
sum_by-range_late f zero some none = absurd (omega arith)
sum_by-range_late f (suc k) some none =
    let shorter : suc k - 1 ≡ k = omega arith in
    omega (arith, sum_by-cons f 0 (range_with_len (0 + 1) k), none, ap (λ (l : ℕ). sum_by f (range_with_len 1 l)) shorter)

-- sums of terms that are equal wherever something holds
pub sum_by-all_same : {X : Type 0} (P : X → Type 0) (f g : X → ℕ) → ((x : X) → P x → f x ≡ g x) → (xs : List X) → All P xs → sum_by f xs ≡ sum_by g xs
sum_by-all_same P f g same [] all = refl
sum_by-all_same P f g same (x ∷ xs) all =
    let here : f x ≡ g x = same x (All-head P x xs all) in
    let rest : sum_by f xs ≡ sum_by g xs = sum_by-all_same P f g same xs (All-tail P x xs all) in
    omega (arith, sum_by-cons f x xs, sum_by-cons g x xs, here, rest)

-- a sum of zeros over any list
pub sum_by-all_none : {X : Type 0} (P : X → Type 0) (f : X → ℕ) → ((x : X) → P x → f x ≡ 0) → (xs : List X) → All P xs → sum_by f xs ≡ 0
sum_by-all_none P f none [] all = refl
sum_by-all_none P f none (x ∷ xs) all =
    let here : f x ≡ 0 = none x (All-head P x xs all) in
    let rest : sum_by f xs ≡ 0 = sum_by-all_none P f none xs (All-tail P x xs all) in
    omega (arith, sum_by-cons f x xs, here, rest)

-- what holds of each number of a range holds of all of them
pub All-range : (P : ℕ → Type 0) (a k : ℕ) → ((x : ℕ) → a ≤ x → x < a + k → P x) → All P (range_with_len a k)
All-range P a zero each = All-nil P
All-range P a (suc k) each = All-cons P a (range_with_len (a + 1) k) (each a (omega arith) (omega arith)) (All-range P (a + 1) k (λ x low high. each x (omega arith) (omega arith)))

-- what holds of all of each list holds of all of them joined
pub All-flat_map : {X Y : Type 0} (P : Y → Type 0) (f : X → List Y) (xs : List X) → All (λ x. All P (f x)) xs → All P (flat_map f xs)
All-flat_map P f [] each = All-nil P
All-flat_map P f (x ∷ xs) each =
    All-append P (f x) (flat_map f xs) (All-head (λ x. All P (f x)) x xs each) (All-flat_map P f xs (All-tail (λ x. All P (f x)) x xs each))

-- the order of two sums
pub sum_by-swap : {X Y : Type 0} (f : X → Y → ℕ) (xs : List X) (ys : List Y) → sum_by (λ x. sum_by (f x) ys) xs ≡ sum_by (λ y. sum_by (λ x. f x y) xs) ys
sum_by-swap f xs [] = sum_by-all_none (λ x. Unit {0}) (λ x. sum_by (f x) []) (λ x _. refl) xs (λ k d _. tt)
sum_by-swap f xs (y ∷ ys) =
    let split : sum_by (λ x. sum_by (f x) (y ∷ ys)) xs ≡ sum_by (λ x. f x y + sum_by (f x) ys) xs = sum_by-same (λ x. sum_by (f x) (y ∷ ys)) (λ x. f x y + sum_by (f x) ys) (λ x. sum_by-cons (f x) y ys) xs in
    omega (arith, split, sum_by-add (λ x. f x y) (λ x. sum_by (f x) ys) xs, sum_by-swap f xs ys, sum_by-cons (λ y. sum_by (λ x. f x y) xs) y ys)

-- a sum of equal terms
pub sum_by-range_equal : (f : ℕ → ℕ) (c a k : ℕ) → ((x : ℕ) → a ≤ x → x < a + k → f x ≡ c) → sum_by f (range_with_len a k) ≡ k * c
sum_by-range_equal f c a zero each = omega arith
sum_by-range_equal f c a (suc k) each =
    let here : f a ≡ c = each a (omega arith) (omega arith) in
    let rest : sum_by f (range_with_len (a + 1) k) ≡ k * c = sum_by-range_equal f c (a + 1) k (λ x low high. each x (omega arith) (omega arith)) in
    omega (arith, sum_by-cons f a (range_with_len (a + 1) k), here, rest)
