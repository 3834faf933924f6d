-- Sums over ranges of numbers, and over the numbers of a set.
use Rattle.std.proofs.Common.{◌≡◌, ◌≢◌, ℕ, zero, suc, ◌+◌, ◌-◌, ◌<◌, ◌≤◌, Bool, true, false, ◌||◌, ◌==◌, cond}
use Rattle.std.proofs.Common.{List, [], ◌∷◌, length, inl, inr, refl, arith, ap, sym}
use Rattle.std.specs.List.{range_with_len, sum_by}
use Rattle.std.proofs.lemmas.Bool.{cases_lt, cond-true, cond-false, eq-eqb, ne_eqb}
use Rattle.std.proofs.lemmas.List.FromFn.{get_or-range_with_len, length-range_with_len}
use Rattle.std.proofs.lemmas.List.Sums.{get_or-le-sum_by, sum_by-cons, sum_by-le-sum_by}
use Rattle.league.specs.Sets.{is_in}
use Rattle.league.proofs.OneTermLemmas.{sum_by-range_none, sum_by-range_one}
use Rattle.league.proofs.RangeLemmas.{sum_by-range_more}
use Rattle.league.proofs.SumLemmas.{sum_by-add}

-- a term is at most the sum
pub term_in : (g : ℕ → ℕ) (a k d : ℕ) → d < k → g (a + d) ≤ sum_by g (range_with_len a k)
term_in g a k d below =
    let inside : d < length (range_with_len a k) = omega (arith, below, length-range_with_len a k) in
    omega (
      arith,
      get_or-le-sum_by g (range_with_len a k) d 0 inside,
      ap g (get_or-range_with_len a k d 0 below),
    )

-- the same terms by their distance from the first
pub range_shifted : (g : ℕ → ℕ) (a k : ℕ)
    → sum_by g (range_with_len a k) ≡ sum_by (λ d. g (a + d)) (range_with_len 0 k)
range_shifted g a zero = refl
range_shifted g a (suc k) =
    let next : suc k ≡ k + 1 = omega arith in
    let place : a + (0 + k) ≡ a + k = omega arith in
    omega (
      arith,
      ap (λ (l : ℕ). sum_by g (range_with_len a l)) next,
      ap (λ (l : ℕ). sum_by (λ d. g (a + d)) (range_with_len 0 l)) next,
      sum_by-range_more g a k,
      sum_by-range_more (λ d. g (a + d)) 0 k,
      ap g place,
      range_shifted g a k,
    )

-- terms that are no larger in the range
pub range_le : (f g : ℕ → ℕ) (a k : ℕ) → ((x : ℕ) → a ≤ x → x < a + k → f x ≤ g x)
    → sum_by f (range_with_len a k) ≤ sum_by g (range_with_len a k)
range_le f g a zero each = omega arith
range_le f g a (suc k) each =
    omega (
      arith,
      sum_by-cons f a (range_with_len (a + 1) k),
      sum_by-cons g a (range_with_len (a + 1) k),
      each a (omega arith) (omega arith),
      range_le f g (a + 1) k (λ x low high. each x (omega arith) (omega arith)),
    )

-- ---- sets

-- a term only at the numbers of a set
abbrev pub only_in : List ℕ → (ℕ → ℕ) → ℕ → ℕ
only_in xs g x = cond (is_in x xs) (g x) 0

one_more : (here before : Bool) (k : ℕ) → cond (here || before) k 0 ≤ cond here k 0 + cond before k 0
one_more true before k = omega arith
one_more false before k = omega arith

pub one_term : (g : ℕ → ℕ) (y size : ℕ) → sum_by (λ x. cond (y == x) (g x) 0) (range_with_len 0 size) ≤ g y
one_term g y size =
    let f : ℕ → ℕ = λ x. cond (y == x) (g x) 0 in
    let other : (x : ℕ) → x ≢ y → f x ≡ 0 =
    λ x differ. cond-false (y == x) (g x) 0 (ne_eqb y x (λ same. differ (sym same))) in
    elim (cases_lt y size) [
      | inl inside ↦
          (let itself : f y ≡ g y = cond-true (y == y) (g y) 0 (eq-eqb y y refl) in
          omega (
            arith,
            sum_by-range_one f 0 size y (omega arith) (omega (arith, inside)) (λ x low high differ. other x differ),
            itself,
          ))
      | inr past ↦
          omega (
            arith,
            sum_by-range_none f 0 size
                (λ x low high. other x (λ same. (let never : ⊥ = omega (arith, high, past, same) in never))),
          )
    ]

-- counted over a range, the terms at a set's numbers are no more than counted over the set
pub only_in-le : (g : ℕ → ℕ) (xs : List ℕ) (size : ℕ) → sum_by (only_in xs g) (range_with_len 0 size) ≤ sum_by g xs
only_in-le g [] size = omega (arith, sum_by-range_none (only_in [] g) 0 size (λ x low high. refl))
only_in-le g (y ∷ xs) size =
    let here : ℕ → ℕ = λ x. cond (y == x) (g x) 0 in
    omega (
      arith,
      sum_by-le-sum_by (only_in (y ∷ xs) g) (λ x. here x + only_in xs g x) (range_with_len 0 size)
          (λ x. one_more (y == x) (is_in x xs) (g x)),
      sum_by-add here (only_in xs g) (range_with_len 0 size),
      one_term g y size,
      only_in-le g xs size,
      sum_by-cons g y xs,
    )
