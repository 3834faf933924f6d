-- Sums of which all terms but one are 0, or all.
use Rattle.std.proofs.Common.{◌≡◌, ◌≢◌, ℕ, ◌+◌, ◌*◌, ◌<◌, ◌≤◌, zero, suc, List, [], ◌∷◌, refl, arith, ap, ◌∙◌, inl, inr}
use Rattle.std.proofs.lemmas.Bool.{cases_eq}
use Rattle.std.proofs.lemmas.List.Sums.{sum_by-cons}
use Rattle.std.specs.List.{range_with_len, sum_by}
use Rattle.league.proofs.RangeLemmas.{sum_by-range_more}

sum_to_more : (f : ℕ → ℕ) (k : ℕ) → sum_by f (range_with_len 0 (suc k)) ≡ sum_by f (range_with_len 0 k) + f k
sum_to_more f k =
    let next : suc k ≡ k + 1 = omega arith in
    let at : 0 + k ≡ k = omega arith in
    ap (λ (x : ℕ). sum_by f (range_with_len 0 x)) next ∙ sum_by-range_more f 0 k
    ∙ ap (λ (x : ℕ). sum_by f (range_with_len 0 k) + f x) at

none_before : (f : ℕ → ℕ) (o k : ℕ) → ((j : ℕ) → j ≢ o → f j ≡ 0) → k ≤ o → sum_by f (range_with_len 0 k) ≡ 0
none_before f o zero none le = refl
none_before f o (suc k) none le =
    let differ : k ≢ o = omega arith in
    omega (arith, sum_to_more f k, none k differ, none_before f o k none (omega arith))

-- the numbers below k, of which o alone counts
pub only_one : (f : ℕ → ℕ) (o k : ℕ) → ((j : ℕ) → j ≢ o → f j ≡ 0) → o < k → sum_by f (range_with_len 0 k) ≡ f o
only_one f o zero none lt = absurd (omega arith)
only_one f o (suc k) none lt =
    elim (cases_eq k o) [
      | inl same ↦ let here : f k ≡ f o = ap f same in
          omega (arith, sum_to_more f k, here, none_before f o k none (omega arith))
      | inr differ ↦ omega (arith, sum_to_more f k, none k differ, only_one f o k none (omega arith))
    ]

pub all_zero : (f : ℕ → ℕ) → ((j : ℕ) → f j ≡ 0) → (xs : List ℕ) → sum_by f xs ≡ 0
all_zero f none [] = refl
all_zero f none (x ∷ xs) = omega (arith, sum_by-cons f x xs, none x, all_zero f none xs)

pub zero-mul : (x : ℕ) → 0 * x ≡ 0
zero-mul x = omega arith
