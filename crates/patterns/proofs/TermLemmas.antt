-- Sums and counts over the numbers below k: one term of them, and counts of at most one.
use Rattle.std.proofs.Common.{◌≡◌, ℕ, zero, suc, ◌+◌, ◌<◌, ◌≤◌, Bool, true, false, length, get_or, refl, arith, ap, ◌∙◌, zero-add, inl, inr}
use Rattle.std.specs.Prelude.{◌⊎◌}
use Rattle.std.proofs.lemmas.List.FromFn.{get_or-range_with_len, length-range_with_len}
use Rattle.std.proofs.lemmas.List.Sums.{get_or-le-sum_by}
use Rattle.std.specs.List.{range_with_len, sum_by}
use Rattle.league.proofs.RangeLemmas.{one_if, sum_by-range_more}

-- a sum over the numbers below k + 1
pub sum_by-suc : (f : ℕ → ℕ) (k : ℕ) → sum_by f (range_with_len 0 (suc k)) ≡ sum_by f (range_with_len 0 k) + f k
sum_by-suc f k =
    let last : suc k ≡ k + 1 = omega arith in
    ap (λ (l : ℕ). sum_by f (range_with_len 0 l)) last ∙ sum_by-range_more f 0 k ∙ ap (λ (x : ℕ). sum_by f (range_with_len 0 k) + f x) (zero-add k)

-- each term is at most the sum
pub term-le : (f : ℕ → ℕ) (k s : ℕ) → s < k → f s ≤ sum_by f (range_with_len 0 k)
term-le f k s h =
    let at : get_or (range_with_len 0 k) s 0 ≡ s = get_or-range_with_len 0 k s 0 h ∙ zero-add s in
    let inside : s < length (range_with_len 0 k) = omega (arith, length-range_with_len 0 k) in
    omega (arith, get_or-le-sum_by f (range_with_len 0 k) s 0 inside, ap f at)

-- of two numbers that add up to at least 1, one is at least 1
pub one_of_two : (x y : ℕ) → 1 ≤ x + y → (1 ≤ x) ⊎ (1 ≤ y)
one_of_two zero y h = inr (omega arith)
one_of_two (suc x) y h = inl (omega arith)

-- a sum that is at least 1 has such a term
pub some_term : (f : ℕ → ℕ) (k : ℕ) → 1 ≤ sum_by f (range_with_len 0 k) → (s : ℕ) × ((s < k) × (1 ≤ f s))
some_term f zero h = absurd (omega arith)
some_term f (suc k) h =
    let either : (1 ≤ sum_by f (range_with_len 0 k)) ⊎ (1 ≤ f k) = one_of_two (sum_by f (range_with_len 0 k)) (f k) (omega (arith, sum_by-suc f k)) in
    elim either [
      | inl before ↦ (let found = some_term f k before in (found.0, (omega (arith, found.1.0), found.1.1)))
      | inr here ↦ (k, (omega arith, here))
    ]

-- terms of at least 1
pub sum_by-at_least : (f : ℕ → ℕ) (k : ℕ) → ((i : ℕ) → i < k → 1 ≤ f i) → k ≤ sum_by f (range_with_len 0 k)
sum_by-at_least f zero each = omega arith
sum_by-at_least f (suc k) each =
    omega (arith, sum_by-suc f k, sum_by-at_least f k (λ i h. each i (omega arith)), each k (omega arith))

-- a test that no number below k passes
count-none_more : (p : ℕ → Bool) (k : ℕ) (b : Bool) → p k ≡ b → (p k ≡ true → ⊥) → one_if (p k) ≡ 0
count-none_more p k true e fails = absurd (fails e)
count-none_more p k false e fails = ap one_if e

pub count-none : (p : ℕ → Bool) (k : ℕ) → ((i : ℕ) → i < k → p i ≡ true → ⊥) → sum_by (λ i. one_if (p i)) (range_with_len 0 k) ≡ 0
count-none p zero fails = refl
count-none p (suc k) fails =
    omega (arith, sum_by-suc (λ i. one_if (p i)) k, count-none p k (λ i h. fails i (omega arith)), count-none_more p k (p k) refl (fails k (omega arith)))

-- a test that no two numbers below k pass
count-one_more : (p : ℕ → Bool) (k : ℕ) (b : Bool) → p k ≡ b → ((i j : ℕ) → i < j → j < suc k → p i ≡ true → p j ≡ true → ⊥) → sum_by (λ i. one_if (p i)) (range_with_len 0 k) ≤ 1 → sum_by (λ i. one_if (p i)) (range_with_len 0 (suc k)) ≤ 1
count-one_more p k true e apart so_far =
    omega (arith, sum_by-suc (λ i. one_if (p i)) k, count-none p k (λ i h t. apart i k h (omega arith) t e), ap one_if e)
count-one_more p k false e apart so_far = omega (arith, sum_by-suc (λ i. one_if (p i)) k, so_far, ap one_if e)

pub count-at_most_one : (p : ℕ → Bool) (k : ℕ) → ((i j : ℕ) → i < j → j < k → p i ≡ true → p j ≡ true → ⊥) → sum_by (λ i. one_if (p i)) (range_with_len 0 k) ≤ 1
count-at_most_one p zero apart = omega arith
count-at_most_one p (suc k) apart =
    count-one_more p k (p k) refl apart (count-at_most_one p k (λ i j h l. apart i j h (omega arith)))
