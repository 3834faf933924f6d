-- Sums over the numbers below a bound: with two of the numbers exchanged, with at most one term that counts, and in
-- either order.
use Rattle.std.proofs.Common.{◌≡◌, ◌≢◌, ℕ, zero, suc, ◌+◌, ◌<◌, ◌≤◌, ◌&&◌, not, nat_lt, if◌then◌else◌, inl, inr, refl, arith, ap, sym, ◌∙◌}
use Rattle.std.proofs.lemmas.Bool.{cases_eq}
use Rattle.std.proofs.lemmas.Bool.Decides.{nat_tests}
use Rattle.std.specs.List.{range_with_len, sum_by}
use Rattle.league.proofs.RangeLemmas.{sum_by-range_more}
use Rattle.league.proofs.SumLemmas.{sum_by-add}
use Rattle.moves.specs.Moves.{exchange}

-- the sum of the values at the numbers below k
abbrev pub total : (ℕ → ℕ) → ℕ → ℕ
total f k = sum_by f (range_with_len 0 k)

pub total-suc : (f : ℕ → ℕ) (k : ℕ) → total f (suc k) ≡ total f k + f k
total-suc f k =
    let more : k + 1 ≡ suc k = omega arith in
    let last : 0 + k ≡ k = omega arith in
    omega (arith, sum_by-range_more f 0 k, ap (λ (l : ℕ). total f l) more, ap f last)

pub total-same : (f g : ℕ → ℕ) (k : ℕ) → ((x : ℕ) → x < k → f x ≡ g x) → total f k ≡ total g k
total-same f g zero same = refl
total-same f g (suc k) same =
    omega (arith, total-suc f k, total-suc g k, same k (omega arith), total-same f g k (λ x lt. same x (omega arith)))

pub total-none : (f : ℕ → ℕ) (k : ℕ) → ((x : ℕ) → x < k → f x ≡ 0) → total f k ≡ 0
total-none f zero none = refl
total-none f (suc k) none = omega (arith, total-suc f k, none k (omega arith), total-none f k (λ x lt. none x (omega arith)))

pub total-le : (f g : ℕ → ℕ) (k : ℕ) → ((x : ℕ) → x < k → f x ≤ g x) → total f k ≤ total g k
total-le f g zero le = omega arith
total-le f g (suc k) le =
    omega (arith, total-suc f k, total-suc g k, le k (omega arith), total-le f g k (λ x lt. le x (omega arith)))

-- a term is at most the sum
pub term-le-total : (f : ℕ → ℕ) (k x : ℕ) → x < k → f x ≤ total f k
term-le-total f zero x lt = absurd (omega arith)
term-le-total f (suc k) x lt =
    elim (cases_eq x k) as (λ _. f x ≤ total f (suc k)) [
      | inl same ↦ omega (arith, total-suc f k, ap f same)
      | inr other ↦ omega (arith, total-suc f k, term-le-total f k x (omega arith))
    ]

-- one term alone
pub total-one : (f : ℕ → ℕ) (k x : ℕ) → x < k → ((y : ℕ) → y < k → y ≢ x → f y ≡ 0) → total f k ≡ f x
total-one f zero x lt others = absurd (omega arith)
total-one f (suc k) x lt others =
    elim (cases_eq x k) as (λ _. total f (suc k) ≡ f x) [
      | inl same ↦ omega (arith, total-suc f k, ap f same, total-none f k (λ y below. others y (omega arith) (λ e. omega arith)))
      | inr other ↦ omega (
        arith,
        total-suc f k,
        others k (omega arith) (λ e. other (sym e)),
        total-one f k x (omega arith) (λ y below. others y (omega arith)),
      )
    ]

-- where the sum is 1, one term is, and the others are 0
pub record OneIsOne (f : ℕ → ℕ) (k : ℕ) : Type 0 where
  pub at : ℕ
  pub below : at < k
  pub one : f at ≡ 1
  pub others : (y : ℕ) → y < k → y ≢ at → f y ≡ 0

pub one-of_total : (f : ℕ → ℕ) (k : ℕ) → total f k ≡ 1 → OneIsOne f k
one-of_total f zero is = absurd (omega arith)
one-of_total f (suc k) is =
    elim (cases_eq (f k) 0) as (λ _. OneIsOne f (suc k)) [
      | inl none ↦
          let before : OneIsOne f k = one-of_total f k (omega (arith, total-suc f k)) in
          record {
            at = before.at;
            below = omega (arith, before.below);
            one = before.one;
            others = λ y lt ne. elim (cases_eq y k) as (λ _. f y ≡ 0) [
              | inl same ↦ ap f same ∙ none
              | inr other ↦ before.others y (omega arith) ne
            ];
          }
      | inr some ↦
          let rest : total f k ≡ 0 = omega (arith, total-suc f k) in
          record {
            at = k;
            below = omega arith;
            one = omega (arith, total-suc f k);
            others = λ y lt ne. omega (arith, rest, term-le-total f k y (omega arith));
          }
    ]

-- terms that are no larger, with the same sum, are the same
pub total-squeeze : (f g : ℕ → ℕ) (k : ℕ) → ((x : ℕ) → x < k → f x ≤ g x) → total f k ≡ total g k → (x : ℕ) → x < k → f x ≡ g x
total-squeeze f g zero le is x lt = absurd (omega arith)
total-squeeze f g (suc k) le is x lt =
    let last : f k ≤ g k = le k (omega arith) in
    let before : total f k ≤ total g k = total-le f g k (λ y below. le y (omega arith)) in
    let so_far : total f k ≡ total g k = omega (arith, total-suc f k, total-suc g k) in
    elim (cases_eq x k) as (λ _. f x ≡ g x) [
      | inl same ↦ omega (arith, total-suc f k, total-suc g k, ap f same, ap g same)
      | inr other ↦ total-squeeze f g k (λ y below. le y (omega arith)) so_far x (omega arith)
    ]

pub total-add : (f g : ℕ → ℕ) (k : ℕ) → total (λ x. f x + g x) k ≡ total f k + total g k
total-add f g k = sum_by-add f g (range_with_len 0 k)

-- the order of two sums
pub total-swap : (f : ℕ → ℕ → ℕ) (a b : ℕ) → total (λ x. total (f x) b) a ≡ total (λ y. total (λ x. f x y) a) b
total-swap f zero b = sym (total-none (λ y. total (λ x. f x y) 0) b (λ y lt. refl))
total-swap f (suc a) b =
    let longer : total (λ y. total (λ x. f x y) (suc a)) b ≡ total (λ y. total (λ x. f x y) a + f a y) b =
    total-same (λ y. total (λ x. f x y) (suc a)) (λ y. total (λ x. f x y) a + f a y) b (λ y lt. total-suc (λ x. f x y) a) in
    omega (arith, total-suc (λ x. total (f x) b) a, total-swap f a b, longer, total-add (λ y. total (λ x. f x y) a) (f a) b)

-- a number, where s is below k and t isn't
abbrev pub between : ℕ → ℕ → ℕ → ℕ → ℕ
between s t k x = if nat_lt s k && not (nat_lt t k) then x else 0

-- one more term where s and t are exchanged
one_more : (s t k fs ft ex here a b : ℕ) → s < t → (k ≡ s → (ex ≡ ft) × (here ≡ fs)) → (k ≡ t → (ex ≡ fs) × (here ≡ ft)) → (k ≢ s → k ≢ t → ex ≡ here) → a + between s t k fs ≡ b + between s t k ft → a + ex + between s t (suc k) fs ≡ b + here + between s t (suc k) ft
one_more s t k fs ft ex here a b lt first second other so_far = grind (arith, nat_tests)

pub exchange-first : (s t k : ℕ) → k ≡ s → exchange s t k ≡ t
exchange-first s t k e = grind (arith, nat_tests)

pub exchange-second : (s t k : ℕ) → k ≡ t → exchange s t k ≡ s
exchange-second s t k e = grind (arith, nat_tests)

pub exchange-other : (s t k : ℕ) → k ≢ s → k ≢ t → exchange s t k ≡ k
exchange-other s t k a b = grind (arith, nat_tests)

pub exchange-below : (s t n k : ℕ) → s < n → t < n → k < n → exchange s t k < n
exchange-below s t n k a b c = grind (arith, nat_tests)

-- the sum below k, where s and t are exchanged
pub total-exchanged : (f : ℕ → ℕ) (s t k : ℕ) → s < t → total (λ r. f (exchange s t r)) k + between s t k (f s) ≡ total f k + between s t k (f t)
total-exchanged f s t zero lt = grind (arith, nat_tests)
total-exchanged f s t (suc k) lt =
    let so_far = total-exchanged f s t k lt in
    let step : total (λ r. f (exchange s t r)) k + f (exchange s t k) + between s t (suc k) (f s) ≡ total f k + f k + between s t (suc k) (f t) =
    one_more s t k (f s) (f t) (f (exchange s t k)) (f k) (total (λ r. f (exchange s t r)) k) (total f k) lt
    (λ e. (ap f (exchange-first s t k e), ap f e))
    (λ e. (ap f (exchange-second s t k e), ap f e))
    (λ a b. ap f (exchange-other s t k a b))
    so_far in
    omega (arith, total-suc (λ r. f (exchange s t r)) k, total-suc f k, step)

between-past : (s t k x : ℕ) → t < k → between s t k x ≡ 0
between-past s t k x lt = grind (arith, nat_tests)

-- over all of the numbers nothing changes
pub total-exchanged_all : (f : ℕ → ℕ) (s t k : ℕ) → s < t → t < k → total (λ r. f (exchange s t r)) k ≡ total f k
total-exchanged_all f s t k lt last = omega (arith, total-exchanged f s t k lt, between-past s t k (f s) last, between-past s t k (f t) last)

-- a value that s and t share is that of each number and of the one that it is exchanged with
pub exchange-same : (f : ℕ → ℕ) (s t r : ℕ) → f s ≡ f t → f (exchange s t r) ≡ f r
exchange-same f s t r e =
    elim (cases_eq r s) as (λ _. f (exchange s t r) ≡ f r) [
      | inl is_s ↦ ap f (exchange-first s t r is_s) ∙ sym e ∙ sym (ap f is_s)
      | inr not_s ↦ elim (cases_eq r t) as (λ _. f (exchange s t r) ≡ f r) [
        | inl is_t ↦ ap f (exchange-second s t r is_t) ∙ e ∙ sym (ap f is_t)
        | inr not_t ↦ ap f (exchange-other s t r not_s not_t)
      ]
    ]
