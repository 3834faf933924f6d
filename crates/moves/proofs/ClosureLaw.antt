-- The least set that so many steps reach is closed, and the least that is.
use Rattle.std.proofs.Common.{◌≡◌, ℕ, zero, suc, ◌+◌, ◌<◌, ◌≤◌, Bool, true, false, ◌||◌, ◌==◌, ◌⊎◌, inl, inr, List, [], refl, arith, ap, ◌∙◌}
use Rattle.std.proofs.lemmas.Bool.{cases_eq, eq-eqb, or_cases, or_left}
use Rattle.std.specs.List.{list_any, range_with_len}
use Rattle.league.proofs.RangeLemmas.{one_if, one_if-le}
use Rattle.league.specs.Sets.{is_in}
use Rattle.moves.specs.Closure.{ClosuresAreLeast, closure, reached}
use Rattle.moves.proofs.SumLemmas.{term-le-total, total, total-le, total-squeeze, total-suc}
use Rattle.moves.proofs.WalkLemmas.{IsFound, any_cons, both_true, found_in, passes_filter, reached-keep, reached-least, reached-next, which_reached}

-- how many numbers below k so many steps reach
abbrev size : (ℕ → ℕ → Bool) → ℕ → ℕ → ℕ → ℕ
size next k x steps = total (λ y. one_if (is_in y (reached next k x steps))) k

-- what so many steps reach is closed
abbrev IsSettled : (ℕ → ℕ → Bool) → ℕ → ℕ → ℕ → Type 0
IsSettled next k x steps =
    (a b : ℕ) → b < k → is_in a (reached next k x steps) ≡ true → next a b ≡ true → is_in b (reached next k x steps) ≡ true

start_reached : (next : ℕ → ℕ → Bool) (k x steps : ℕ) → x < k → is_in x (reached next k x steps) ≡ true
start_reached next k x zero lt = any_cons (λ z. z == x) x [] ∙ or_left (x == x) (is_in x []) (eq-eqb x x refl)
start_reached next k x (suc steps) lt = reached-keep next k x steps x (start_reached next k x steps lt) lt

one_if-mono : (p q : Bool) → (p ≡ true → q ≡ true) → one_if p ≤ one_if q
one_if-mono true true leads = omega arith
one_if-mono true false leads = let no : false ≡ true = leads refl in absurd (cc)
one_if-mono false q leads = omega arith

same_test : (p q : Bool) → one_if p ≡ one_if q → q ≡ true → p ≡ true
same_test true q same is = refl
same_test false true same is = let no : 0 ≡ 1 = same in absurd (omega (arith, no))
same_test false false same is = is

few : (f : ℕ → ℕ) (k : ℕ) → ((y : ℕ) → f y ≤ 1) → total f k ≤ k
few f zero le = omega arith
few f (suc k) le = omega (arith, total-suc f k, le k, few f k le)

size-step : (next : ℕ → ℕ → Bool) (k x steps y : ℕ) → y < k → one_if (is_in y (reached next k x steps)) ≤ one_if (is_in y (reached next k x (suc steps)))
size-step next k x steps y lt =
    one_if-mono (is_in y (reached next k x steps)) (is_in y (reached next k x (suc steps))) (λ among. reached-keep next k x steps y among lt)

settled-more : (next : ℕ → ℕ → Bool) (k x steps : ℕ) → x < k → IsSettled next k x steps → IsSettled next k x (suc steps)
settled-more next k x steps lt_x settled a b lt among leads =
    let xs : List ℕ = reached next k x steps in
    let before : is_in a xs ≡ true =
    elim (or_cases (is_in a xs) (list_any (λ x. next x a) xs) (passes_filter (λ y. is_in y xs || list_any (λ x. next x y) xs) a (range_with_len 0 k) among)) as (λ _. is_in a xs ≡ true) [
      | inl here ↦ here
      | inr led ↦
          let f : IsFound (λ x. next x a) xs = found_in (λ x. next x a) xs led in
          elim (which_reached next k x (suc steps) a among) as (λ _. is_in a xs ≡ true) [
            | inl same ↦ ap (λ (a : ℕ). is_in a xs) same ∙ start_reached next k x steps lt_x
            | inr lt_a ↦ settled f.at a lt_a f.among f.passes
          ]
    ] in
    reached-next next k x steps a b before leads lt

growth : (next : ℕ → ℕ → Bool) (k x steps : ℕ) → x < k → (steps + 1 ≤ size next k x steps) ⊎ IsSettled next k x steps
growth next k x zero lt =
    let first : one_if (is_in x (reached next k x 0)) ≡ 1 = ap one_if (start_reached next k x 0 lt) in
    inl (omega (arith, first, term-le-total (λ y. one_if (is_in y (reached next k x 0))) k x lt))
growth next k x (suc steps) lt =
    let goal : Type 0 = (suc steps + 1 ≤ size next k x (suc steps)) ⊎ IsSettled next k x (suc steps) in
    let f : ℕ → ℕ = λ y. one_if (is_in y (reached next k x steps)) in
    let g : ℕ → ℕ = λ y. one_if (is_in y (reached next k x (suc steps))) in
    elim (growth next k x steps lt) as (λ _. goal) [
      | inr settled ↦ inr (settled-more next k x steps lt settled)
      | inl many ↦ elim (cases_eq (total f k) (total g k)) as (λ _. goal) [
        | inl same ↦
            let settled : IsSettled next k x steps = λ a b lt_b among leads.
            same_test (is_in b (reached next k x steps)) (is_in b (reached next k x (suc steps)))
            (total-squeeze f g k (λ y lt_y. size-step next k x steps y lt_y) same b lt_b)
            (reached-next next k x steps a b among leads lt_b) in
            inr (settled-more next k x steps lt settled)
        | inr differ ↦ inl (omega (arith, many, total-le f g k (λ y lt_y. size-step next k x steps y lt_y)))
      ]
    ]

pub closure-closed : (next : ℕ → ℕ → Bool) (k x : ℕ) → x < k → (a b : ℕ) → b < k → is_in a (closure next k x) ≡ true → next a b ≡ true → is_in b (closure next k x) ≡ true
closure-closed next k x lt a b lt_b among leads =
    elim (growth next k x k lt) as (λ _. is_in b (closure next k x) ≡ true) [
      | inl many ↦
          let all : size next k x k ≤ k = few (λ y. one_if (is_in y (reached next k x k))) k (λ y. one_if-le (is_in y (reached next k x k))) in
          absurd (omega (arith, many, all))
      | inr settled ↦ settled a b lt_b among leads
    ]

pub closure-start : (next : ℕ → ℕ → Bool) (k x : ℕ) → x < k → is_in x (closure next k x) ≡ true
closure-start next k x lt = start_reached next k x k lt

pub closure-least : (next : ℕ → ℕ → Bool) (k x : ℕ) (other : ℕ → Bool) → other x ≡ true → ((a b : ℕ) → b < k → other a ≡ true → next a b ≡ true → other b ≡ true) → (a : ℕ) → is_in a (closure next k x) ≡ true → other a ≡ true
closure-least next k x other start closed a among = reached-least next k x other start closed k a among (which_reached next k x k a among)

pub closure-below : (next : ℕ → ℕ → Bool) (k x a : ℕ) → x < k → is_in a (closure next k x) ≡ true → a < k
closure-below next k x a lt among = elim (which_reached next k x k a among) as (λ _. a < k) [
  | inl same ↦ omega arith
  | inr below ↦ below
]

pub closures-least : ClosuresAreLeast
closures-least next k x lt = record {
  start = closure-start next k x lt;
  closed = closure-closed next k x lt;
  least = closure-least next k x;
}

-- two relations have the same closure where each is closed under the other
pub closures-same : (next other : ℕ → ℕ → Bool) (k x : ℕ) → x < k
    → ((a b : ℕ) → b < k → is_in a (closure next k x) ≡ true → other a b ≡ true → is_in b (closure next k x) ≡ true) →
    ((a b : ℕ) → b < k → is_in a (closure other k x) ≡ true → is_in a (closure next k x) ≡ true → next a b ≡ true →
    is_in b (closure other k x) ≡ true) → (a : ℕ) → is_in a (closure next k x) ≡ is_in a (closure other k x)
closures-same next other k x lt mine its a =
    let within : (a : ℕ) → is_in a (closure other k x) ≡ true → is_in a (closure next k x) ≡ true =
    closure-least other k x (λ a. is_in a (closure next k x)) (closure-start next k x lt) mine in
    let all : (a : ℕ) → is_in a (closure next k x) ≡ true → is_in a (closure other k x) ≡ true =
    closure-least next k x (λ a. is_in a (closure other k x)) (closure-start other k x lt) (λ a b lt_b among leads. its a b lt_b among (within a among) leads) in
    both_true (is_in a (closure next k x)) (is_in a (closure other k x)) (all a) (within a)
