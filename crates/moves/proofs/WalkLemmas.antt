-- The numbers that so many steps reach, and what a walk has marked when it comes back.
use Rattle.std.proofs.Common.{◌≡◌, ℕ, zero, suc, ◌+◌, ◌-◌, ◌<◌, ◌≤◌, Bool, true, false, ◌||◌, ◌==◌, ◌⊎◌, inl, inr, List, [], ◌∷◌, length, get_or, replicate, set, refl, arith, ap, subst, sym, ◌∙◌}
use Rattle.std.proofs.lemmas.Bool.{cases_eq, cases_Bool, eqb-true, eq-eqb, or_cases, or_left, or_right}
use Rattle.std.proofs.lemmas.List.{get_or-set_other, get_or-set_same}
use Rattle.std.proofs.lemmas.List.Folds.{list_any_at}
use Rattle.std.proofs.lemmas.List.FromFn.{get_or-range_with_len, length-range_with_len}
use Rattle.std.proofs.lemmas.List.Sums.{sum_by-cons, sum_by-set}
use Rattle.std.specs.List.{count_by, filter, list_any, range_with_len}
use Rattle.league.proofs.RangeLemmas.{one_if, one_if-le}
use Rattle.league.specs.Sets.{is_in}
use Rattle.moves.specs.Closure.{closure, reached}

pub any_cons : (p : ℕ → Bool) (x : ℕ) (xs : List ℕ) → list_any p (x ∷ xs) ≡ (p x || list_any p xs)
any_cons p x xs = refl

-- a number in a list that is filtered
in_filter : (p : ℕ → Bool) (y : ℕ) (xs : List ℕ) → is_in y xs ≡ true → p y ≡ true → is_in y (filter p xs) ≡ true
in_filter p y [] among passes = absurd (cc)
in_filter p y (x ∷ xs) among passes =
    elim (or_cases (x == y) (is_in y xs) (sym (any_cons (λ z. z == y) x xs) ∙ among)) as (λ _. is_in y (filter p (x ∷ xs)) ≡ true) [
      | inl here ↦
          let same : x ≡ y = eqb-true x y here in
          let keeps : p x ≡ true = ap p same ∙ passes in
          rw keeps (any_cons (λ z. z == y) x (filter p xs) ∙ or_left (x == y) (is_in y (filter p xs)) here)
      | inr later ↦
          let rest : is_in y (filter p xs) ≡ true = in_filter p y xs later passes in
          elim (cases_Bool (p x)) as (λ _. is_in y (filter p (x ∷ xs)) ≡ true) [
            | inl keeps ↦ rw keeps (any_cons (λ z. z == y) x (filter p xs) ∙ or_right (x == y) (is_in y (filter p xs)) rest)
            | inr drops ↦ rw drops rest
          ]
    ]

pub passes_filter : (p : ℕ → Bool) (y : ℕ) (xs : List ℕ) → is_in y (filter p xs) ≡ true → p y ≡ true
passes_filter p y [] among = absurd (cc)
passes_filter p y (x ∷ xs) among =
    elim (cases_Bool (p x)) as (λ _. p y ≡ true) [
      | inl keeps ↦
          let whole : filter p (x ∷ xs) ≡ x ∷ filter p xs = rw keeps refl in
          elim (or_cases (x == y) (is_in y (filter p xs)) (sym (any_cons (λ z. z == y) x (filter p xs)) ∙ sym (ap (is_in y) whole) ∙ among)) as (λ _. p y ≡ true) [
            | inl here ↦ ap p (sym (eqb-true x y here)) ∙ keeps
            | inr later ↦ passes_filter p y xs later
          ]
      | inr drops ↦
          let whole : filter p (x ∷ xs) ≡ filter p xs = rw drops refl in
          passes_filter p y xs (sym (ap (is_in y) whole) ∙ among)
    ]

-- a number of a filtered list is of the list
in_filtered : (p : ℕ → Bool) (y : ℕ) (xs : List ℕ) → is_in y (filter p xs) ≡ true → is_in y xs ≡ true
in_filtered p y [] among = absurd (cc)
in_filtered p y (x ∷ xs) among =
    elim (cases_Bool (p x)) as (λ _. is_in y (x ∷ xs) ≡ true) [
      | inl keeps ↦
          let whole : filter p (x ∷ xs) ≡ x ∷ filter p xs = rw keeps refl in
          elim (or_cases (x == y) (is_in y (filter p xs)) (sym (any_cons (λ z. z == y) x (filter p xs)) ∙ sym (ap (is_in y) whole) ∙ among)) as (λ _. is_in y (x ∷ xs) ≡ true) [
            | inl here ↦ any_cons (λ z. z == y) x xs ∙ or_left (x == y) (is_in y xs) here
            | inr later ↦ any_cons (λ z. z == y) x xs ∙ or_right (x == y) (is_in y xs) (in_filtered p y xs later)
          ]
      | inr drops ↦
          let whole : filter p (x ∷ xs) ≡ filter p xs = rw drops refl in
          any_cons (λ z. z == y) x xs ∙ or_right (x == y) (is_in y xs) (in_filtered p y xs (sym (ap (is_in y) whole) ∙ among))
    ]

-- a number of a range is below its end
pub below_of : (k a y : ℕ) → is_in y (range_with_len a k) ≡ true → y < a + k
below_of zero a y among = absurd (cc)
below_of (suc k) a y among =
    elim (or_cases (a == y) (is_in y (range_with_len (a + 1) k)) (sym (any_cons (λ z. z == y) a (range_with_len (a + 1) k)) ∙ among)) as (λ _. y < a + suc k) [
      | inl here ↦ let same : a ≡ y = eqb-true a y here in omega arith
      | inr later ↦ let lt : y < a + 1 + k = below_of k (a + 1) y later in omega arith
    ]

-- a number below a bound is in the range
pub in_range : (k y : ℕ) → y < k → is_in y (range_with_len 0 k) ≡ true
in_range k y lt =
    let first : 0 + y ≡ y = omega arith in
    let at : get_or (range_with_len 0 k) y 0 ≡ y = get_or-range_with_len 0 k y 0 lt ∙ first in
    list_any_at (λ z. z == y) (range_with_len 0 k) y 0 (omega (arith, length-range_with_len 0 k)) (eq-eqb (get_or (range_with_len 0 k) y 0) y at)

-- what is in a list and passes a test is found
pub any_of : (p : ℕ → Bool) (a : ℕ) (xs : List ℕ) → is_in a xs ≡ true → p a ≡ true → list_any p xs ≡ true
any_of p a [] among passes = absurd (cc)
any_of p a (x ∷ xs) among passes =
    any_cons p x xs ∙ elim (or_cases (x == a) (is_in a xs) (sym (any_cons (λ z. z == a) x xs) ∙ among)) as (λ _. (p x || list_any p xs) ≡ true) [
      | inl here ↦ or_left (p x) (list_any p xs) (ap p (eqb-true x a here) ∙ passes)
      | inr later ↦ or_right (p x) (list_any p xs) (any_of p a xs later passes)
    ]

-- what is found is in the list, and passes
pub record IsFound (p : ℕ → Bool) (xs : List ℕ) : Type 0 where
  pub at : ℕ
  pub among : is_in at xs ≡ true
  pub passes : p at ≡ true

pub found_in : (p : ℕ → Bool) (xs : List ℕ) → list_any p xs ≡ true → IsFound p xs
found_in p [] any = absurd (cc)
found_in p (x ∷ xs) any =
    elim (or_cases (p x) (list_any p xs) (sym (any_cons p x xs) ∙ any)) as (λ _. IsFound p (x ∷ xs)) [
      | inl here ↦ record { at = x; among = any_cons (λ z. z == x) x xs ∙ or_left (x == x) (is_in x xs) (eq-eqb x x refl); passes = here }
      | inr later ↦
          let rest : IsFound p xs = found_in p xs later in
          record { at = rest.at; among = any_cons (λ z. z == rest.at) x xs ∙ or_right (x == rest.at) (is_in rest.at xs) rest.among; passes = rest.passes }
    ]

-- one step more keeps what was reached, and reaches what is next to it
pub reached-keep : (next : ℕ → ℕ → Bool) (k x steps y : ℕ) → is_in y (reached next k x steps) ≡ true → y < k → is_in y (reached next k x (suc steps)) ≡ true
reached-keep next k x steps y among lt =
    let xs : List ℕ = reached next k x steps in
    in_filter (λ y. is_in y xs || list_any (λ x. next x y) xs) y (range_with_len 0 k) (in_range k y lt) (or_left (is_in y xs) (list_any (λ x. next x y) xs) among)

pub reached-next : (next : ℕ → ℕ → Bool) (k x steps a y : ℕ) → is_in a (reached next k x steps) ≡ true → next a y ≡ true → y < k → is_in y (reached next k x (suc steps)) ≡ true
reached-next next k x steps a y among leads lt =
    let xs : List ℕ = reached next k x steps in
    in_filter (λ y. is_in y xs || list_any (λ x. next x y) xs) y (range_with_len 0 k) (in_range k y lt)
    (or_right (is_in y xs) (list_any (λ x. next x y) xs) (any_of (λ x. next x y) a xs among leads))

pub reached-later : (next : ℕ → ℕ → Bool) (k x steps more y : ℕ) → is_in y (reached next k x steps) ≡ true → y < k → is_in y (reached next k x (steps + more)) ≡ true
reached-later next k x steps zero y among lt = let same : steps + 0 ≡ steps = omega arith in let P : ℕ → Type 0 = λ s. is_in y (reached next k x s) ≡ true in subst P (sym same) among
reached-later next k x steps (suc more) y among lt =
    let same : suc (steps + more) ≡ steps + suc more = omega arith in
    let P : ℕ → Type 0 = λ s. is_in y (reached next k x s) ≡ true in
    subst P same (reached-keep next k x (steps + more) y (reached-later next k x steps more y among lt) lt)

-- what is reached is x, or below the bound
pub which_reached : (next : ℕ → ℕ → Bool) (k x steps y : ℕ) → is_in y (reached next k x steps) ≡ true → (y ≡ x) ⊎ (y < k)
which_reached next k x zero y among =
    elim (or_cases (x == y) (is_in y []) (sym (any_cons (λ z. z == y) x []) ∙ among)) as (λ _. (y ≡ x) ⊎ (y < k)) [
      | inl here ↦ inl (sym (eqb-true x y here))
      | inr none ↦ absurd (cc)
    ]
which_reached next k x (suc steps) y among =
    let xs : List ℕ = reached next k x steps in
    inr (let lt : y < 0 + k = below_of k 0 y (in_filtered (λ y. is_in y xs || list_any (λ x. next x y) xs) y (range_with_len 0 k) among) in omega arith)

-- a closed set that holds x holds what is reached
pub reached-least : (next : ℕ → ℕ → Bool) (k x : ℕ) (other : ℕ → Bool) → other x ≡ true → ((a b : ℕ) → b < k → other a ≡ true → next a b ≡ true → other b ≡ true) → (steps y : ℕ) → is_in y (reached next k x steps) ≡ true → (y ≡ x) ⊎ (y < k) → other y ≡ true
reached-least next k x other start closed zero y among which =
    elim (or_cases (x == y) (is_in y []) (sym (any_cons (λ z. z == y) x []) ∙ among)) as (λ _. other y ≡ true) [
      | inl here ↦ ap other (sym (eqb-true x y here)) ∙ start
      | inr none ↦ absurd (cc)
    ]
reached-least next k x other start closed (suc steps) y among (inl same) = ap other same ∙ start
reached-least next k x other start closed (suc steps) y among (inr lt) =
    let xs : List ℕ = reached next k x steps in
    elim (or_cases (is_in y xs) (list_any (λ x. next x y) xs) (passes_filter (λ y. is_in y xs || list_any (λ x. next x y) xs) y (range_with_len 0 k) among)) as (λ _. other y ≡ true) [
      | inl before ↦ reached-least next k x other start closed steps y before (inr lt)
      | inr leads ↦
          let f : IsFound (λ x. next x y) xs = found_in (λ x. next x y) xs leads in
          closed f.at y lt (reached-least next k x other start closed steps f.at f.among (which_reached next k x steps f.at f.among)) f.passes
    ]

pub both_true : (a b : Bool) → (a ≡ true → b ≡ true) → (b ≡ true → a ≡ true) → a ≡ b
both_true true true p q = refl
both_true true false p q = sym (p refl)
both_true false true p q = q refl
both_true false false p q = refl

-- marks that are closed and reached in at most k steps are the closure
pub marks_are : (next : ℕ → ℕ → Bool) (k x count : ℕ) (marks : ℕ → Bool) → x < k → count ≤ k → marks x ≡ true
    → ((a : ℕ) → marks a ≡ true → a < k) → ((a : ℕ) → marks a ≡ true → is_in a (reached next k x count) ≡ true)
    → ((a b : ℕ) → b < k → marks a ≡ true → next a b ≡ true → marks b ≡ true) → (a : ℕ)
    → marks a ≡ is_in a (closure next k x)
marks_are next k x count marks lt few start below on_way closed a =
    both_true (marks a) (is_in a (closure next k x))
    (λ marked.
    let more : count + (k - count) ≡ k = omega arith in
    let P : ℕ → Type 0 = λ s. is_in a (reached next k x s) ≡ true in
    subst P more (reached-later next k x count (k - count) a (on_way a marked) (below a marked)))
    (λ among. reached-least next k x marks start closed k a among (which_reached next k x k a among))

pub not_marked : (b : Bool) → (b ≡ true → ⊥) → b ≡ false
not_marked true none = absurd (none refl)
not_marked false none = refl

-- at most as many are marked as there are numbers
pub marked-le : (marks : List Bool) (k : ℕ) → ((a : ℕ) → get_or marks a false ≡ true → a < k) → count_by (λ b. b) marks ≤ k
marked-le [] k below = omega arith
marked-le (b ∷ marks) zero below =
    let none : b ≡ false = not_marked b (λ marked. let lt : 0 < 0 = below 0 marked in omega arith) in
    let here : one_if b ≡ 0 = rw none refl in
    omega (arith, sum_by-cons (λ b. one_if b) b marks, here, marked-le marks zero (λ a marked. let lt : suc a < 0 = below (suc a) marked in absurd (omega arith)))
marked-le (b ∷ marks) (suc k) below =
    omega (arith, sum_by-cons (λ b. one_if b) b marks, one_if-le b, marked-le marks k (λ a marked. let lt : suc a < suc k = below (suc a) marked in omega arith))

pub marked-none : (k a : ℕ) → get_or (replicate k false) a false ≡ true → ⊥
marked-none zero a marked = cc
marked-none (suc k) zero marked = cc
marked-none (suc k) (suc a) marked = marked-none k a marked

pub count-none : (k : ℕ) → count_by (λ b. b) (replicate k false) ≡ 0
count-none zero = refl
count-none (suc k) = omega (arith, sum_by-cons (λ b. one_if b) false (replicate k false), count-none k)

-- one mark more
pub count-mark : (marks : List Bool) (i : ℕ) → i < length marks → get_or marks i false ≡ false → count_by (λ b. b) (set marks i true) ≡ count_by (λ b. b) marks + 1
count-mark marks i lt unmarked =
    let none : one_if (get_or marks i false) ≡ 0 = rw unmarked refl in
    omega (arith, sum_by-set (λ b. one_if b) marks i true false lt, none)

pub marked-set : (marks : List Bool) (i a : ℕ) → get_or (set marks i true) a false ≡ true → (get_or marks a false ≡ true) ⊎ (a ≡ i)
marked-set marks i a marked = elim (cases_eq a i) as (λ _. (get_or marks a false ≡ true) ⊎ (a ≡ i)) [
  | inl same ↦ inr same
  | inr other ↦ inl (sym (get_or-set_other marks i a true false other) ∙ marked)
]

pub marked-stays : (marks : List Bool) (i a : ℕ) → i < length marks → (get_or marks a false ≡ true) ⊎ (a ≡ i) → get_or (set marks i true) a false ≡ true
marked-stays marks i a lt which = elim (cases_eq a i) as (λ _. get_or (set marks i true) a false ≡ true) [
  | inl same ↦ ap (λ (a : ℕ). get_or (set marks i true) a false) same ∙ get_or-set_same marks i true false lt
  | inr other ↦ elim which as (λ _. get_or (set marks i true) a false ≡ true) [
    | inl before ↦ get_or-set_other marks i a true false other ∙ before
    | inr is ↦ absurd (other is)
  ]
]
