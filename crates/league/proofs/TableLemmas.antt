-- Numbers in rows of equal length: what a new list of them holds, and a list with one number more.
use Rattle.std.proofs.Common.{◌≡◌, ◌≢◌, ℕ, ◌+◌, ◌*◌, ◌<◌, ◌≤◌, zero, suc, ◌&&◌, ◌==◌, nat_lt, List, length, get_or, replicate, set, refl, arith, ap, ◌∙◌, inl, inr}
use Rattle.std.proofs.lemmas.Grind.{get_or_default_zero}
use Rattle.std.proofs.lemmas.Bool.{cases_eq, cases_lt, cond_both}
use Rattle.std.proofs.lemmas.Bool.Decides.{nat_tests}
use Rattle.std.proofs.lemmas.List.{get_or-set_other, get_or-set_same}
use Rattle.std.proofs.lemmas.Nat.{same_from_place}
use Rattle.league.proofs.RangeLemmas.{one_if}
use Rattle.league.specs.Grid.{number}

-- a list of zeros reads 0 everywhere
pub zero_at : (size i : ℕ) → get_or {A = ℕ} (replicate size 0) i 0 ≡ 0
zero_at zero i = refl
zero_at (suc size) zero = refl
zero_at (suc size) (suc i) = zero_at size i

-- rows of zeros
pub number-replicate : (columns size row column : ℕ) → number columns (replicate size 0) row column ≡ 0
number-replicate columns size row column =
    cond_both (nat_lt column columns) (get_or {A = ℕ} (replicate size 0) (row * columns + column) 0) 0 (λ x. x ≡ 0) (λ e. zero_at size (row * columns + column)) (λ e. refl)

-- a number that is read in a column that there is
pub number-inside : (columns : ℕ) (xs : List ℕ) (row column : ℕ) → column < columns → number columns xs row column ≡ get_or xs (row * columns + column) 0
number-inside columns xs row column h = grind (arith, nat_tests)

-- a number that is read in a column that there isn't
pub number-outside : (columns : ℕ) (xs : List ℕ) (row column : ℕ) → columns ≤ column → number columns xs row column ≡ 0
number-outside columns xs row column h = grind (arith, nat_tests)

-- tests that pass, and tests of which one fails
both_pass : (a b c d : ℕ) → a ≡ b → c ≡ d → one_if ((a == b) && (c == d)) ≡ 1
both_pass a b c d first second = grind (arith, nat_tests)

first_fails : (a b c d : ℕ) → a ≢ b → one_if ((a == b) && (c == d)) ≡ 0
first_fails a b c d differ = grind (arith, nat_tests)

second_fails : (a b c d : ℕ) → c ≢ d → one_if ((a == b) && (c == d)) ≡ 0
second_fails a b c d differ = grind (arith, nat_tests)

-- two lists that agree at all places but one, where the second has one more
pub number-one_more : (columns : ℕ) (xs ys : List ℕ) (row column : ℕ) → column < columns
    → ((q : ℕ) → q ≢ row * columns + column → get_or ys q 0 ≡ get_or xs q 0)
    → get_or ys (row * columns + column) 0 ≡ get_or xs (row * columns + column) 0 + 1 → (i k : ℕ)
    → number columns ys i k ≡ number columns xs i k + one_if ((row == i) && (column == k))
number-one_more columns xs ys row column inside other here i k =
    elim (cases_lt k columns) [
      | inl lt ↦
          elim (cases_eq (i * columns + k) (row * columns + column)) [
            | inl same ↦
                let parts = same_from_place i k row column columns lt inside same in
                let at_row : row ≡ i = omega (arith, parts.0) in
                let at_column : column ≡ k = omega (arith, parts.1) in
                let new : get_or ys (i * columns + k) 0 ≡ get_or ys (row * columns + column) 0 = ap (λ (q : ℕ). get_or ys q 0) same in
                let old : get_or xs (i * columns + k) 0 ≡ get_or xs (row * columns + column) 0 = ap (λ (q : ℕ). get_or xs q 0) same in
                omega (arith, number-inside columns ys i k lt, number-inside columns xs i k lt, new, old, here, both_pass row i column k at_row at_column)
            | inr differ ↦
                let same_row : one_if ((row == i) && (column == k)) ≡ 0 =
                elim (cases_eq row i) [
                  | inl at_row ↦ second_fails row i column k (λ at_column. differ (ap (λ (r : ℕ). r * columns + k) (omega (arith, at_row)) ∙ ap (λ (c : ℕ). row * columns + c) (omega (arith, at_column))))
                  | inr away ↦ first_fails row i column k away
                ] in
                omega (arith, number-inside columns ys i k lt, number-inside columns xs i k lt, other (i * columns + k) differ, same_row)
          ]
      | inr ge ↦
          let apart : column ≢ k = omega arith in
          omega (arith, number-outside columns ys i k ge, number-outside columns xs i k ge, second_fails row i column k apart)
    ]

-- a list with one more at a place
pub number-set_more : (columns : ℕ) (xs : List ℕ) (row column value : ℕ) → column < columns
    → row * columns + column < length xs → value ≡ get_or xs (row * columns + column) 0 + 1 → (i k : ℕ)
    → number columns (set xs (row * columns + column) value) i k
    ≡ number columns xs i k + one_if ((row == i) && (column == k))
number-set_more columns xs row column value inside within is =
    number-one_more columns xs (set xs (row * columns + column) value) row column inside (λ q differ. get_or-set_other xs (row * columns + column) q value 0 differ)
    (get_or-set_same xs (row * columns + column) value 0 within ∙ is)

-- a list with one less at a place
pub number-set_less : (columns : ℕ) (xs : List ℕ) (row column value : ℕ) → column < columns
    → row * columns + column < length xs → value + 1 ≡ get_or xs (row * columns + column) 0 → (i k : ℕ)
    → number columns xs i k
    ≡ number columns (set xs (row * columns + column) value) i k + one_if ((row == i) && (column == k))
number-set_less columns xs row column value inside within is =
    number-one_more columns (set xs (row * columns + column) value) xs row column inside (λ q differ. omega (arith, get_or-set_other xs (row * columns + column) q value 0 differ))
    (omega (arith, get_or-set_same xs (row * columns + column) value 0 within, is))

-- a number that was read at a place
pub read_at : (xs : List ℕ) (place read : ℕ) → place < length xs → read ≡ get_or xs place read → read ≡ get_or xs place 0
read_at xs place read within is = is ∙ get_or_default_zero xs place read within
