-- Sums and counts over a range of numbers, one number more at a time.
use Rattle.std.proofs.Common.{◌≡◌, ℕ, ◌+◌, ◌≤◌, Bool, true, false, [], ◌∷◌, ◌++◌, cond, if◌then◌else◌, refl, arith, ap, ◌∙◌, sym, zero-add}
use Rattle.std.proofs.lemmas.List.{map-id}
use Rattle.std.proofs.lemmas.List.FromFn.{map-range_with_len_more}
use Rattle.std.proofs.lemmas.List.Sums.{sum_by_push}
use Rattle.std.specs.List.{count_by, range_with_len, sum_by}

-- 1 where a test passes, and else 0
abbrev pub one_if : Bool → ℕ
one_if b = if b then 1 else 0

-- the number of a test is at most 1
pub one_if-le : (b : Bool) → one_if b ≤ 1
one_if-le true = omega arith
one_if-le false = omega arith

-- a range with one number more
pub range_with_len-more : (a k : ℕ) → range_with_len a (k + 1) ≡ range_with_len a k ++ (a + k) ∷ []
range_with_len-more a k =
    sym (map-id (range_with_len a (k + 1))) ∙ map-range_with_len_more (λ x. x) a k (a + k) refl ∙ ap (λ xs. xs ++ (a + k) ∷ []) (map-id (range_with_len a k))

-- a sum over a range with one number more
pub sum_by-range_more : (f : ℕ → ℕ) (a k : ℕ) → sum_by f (range_with_len a (k + 1)) ≡ sum_by f (range_with_len a k) + f (a + k)
sum_by-range_more f a k = ap (sum_by f) (range_with_len-more a k) ∙ sum_by_push f (range_with_len a k) (a + k)

-- a count over a range with one number more
pub count_by-range_more : (p : ℕ → Bool) (a k : ℕ) → count_by p (range_with_len a (k + 1)) ≡ count_by p (range_with_len a k) + one_if (p (a + k))
count_by-range_more p a k = sum_by-range_more (λ x. cond (p x) 1 0) a k

-- a count that has come as far as k numbers from a on, with the next number j
pub counted : (p : ℕ → Bool) (a k more j count found : ℕ) → a + k ≡ j → more ≡ k + 1 → count ≡ count_by p (range_with_len a k) → found ≡ one_if (p j) → count + found ≡ count_by p (range_with_len a more)
counted p a k more j count found place longer so_far e =
    omega (arith, count_by-range_more p a k, ap (λ (i : ℕ). one_if (p i)) place, ap (λ (l : ℕ). count_by p (range_with_len a l)) longer, so_far, e)

-- a sum that has come as far as the numbers below k, with the term of k
pub summed : (f : ℕ → ℕ) (k total next : ℕ) → total ≡ sum_by f (range_with_len 0 k) → next ≡ total + f k → next ≡ sum_by f (range_with_len 0 (k + 1))
summed f k total next so_far e =
    omega (arith, sum_by-range_more f 0 k, ap f (zero-add k), so_far, e)
