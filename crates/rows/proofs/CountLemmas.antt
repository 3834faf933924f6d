-- Sums over the variables from 0 on, and what terms count in them.
use Rattle.std.proofs.Common.{◌≡◌, ℕ, zero, suc, ◌+◌, ◌-◌, ◌*◌, ◌<◌, ◌≤◌, ◌==◌, Bool, true, false, ◌&&◌, cond, List, [], ◌∷◌, ◌++◌, nat_lt}
use Rattle.std.proofs.Common.{refl, arith, ap, ◌∙◌}
use Rattle.std.specs.Bool.{beq}
use Rattle.std.specs.List.{flat_map, range_with_len, sum_by}
use Rattle.std.proofs.Math.Nat.{mul-le-mul_left}
use Rattle.std.proofs.lemmas.Bool.Decides.{nat_tests}
use Rattle.std.proofs.lemmas.List.{append-nil}
use Rattle.std.proofs.lemmas.List.Concat.{flat_map-append}
use Rattle.std.proofs.lemmas.List.Folds.{fold_stays}
use Rattle.std.proofs.lemmas.List.Sums.{sum_by-cons, sum_by-le-sum_by, sum_by_push}
use Rattle.rows.specs.Literals.{Literal, yes, no}
use Rattle.rows.specs.declared.lit.Term.{Term}
use Rattle.rows.specs.Sums.{count_in, is_same, weight_of, variables_to}
use Rattle.rows.specs.Tables.{IsCovered}

-- ---- the numbers from 0

range_more : (a n : ℕ) → range_with_len a (suc n) ≡ range_with_len a n ++ (a + n) ∷ []
range_more a zero = let same : a ≡ a + zero = omega arith in ap (λ (k : ℕ). k ∷ []) same
range_more a (suc n) =
    let same : a + 1 + n ≡ a + suc n = omega arith in
    ap (λ (xs : List ℕ). a ∷ xs) (range_more (a + 1) n ∙ ap (λ (k : ℕ). range_with_len (a + 1) n ++ k ∷ []) same)

range_to : (n : ℕ) → range_with_len 0 (suc n) ≡ range_with_len 0 n ++ n ∷ []
range_to n =
    let same : 0 + n ≡ n = omega arith in
    range_more 0 n ∙ ap (λ (k : ℕ). range_with_len 0 n ++ k ∷ []) same

pub sum_to-more : (f : ℕ → ℕ) (n : ℕ) → sum_by f (range_with_len 0 (suc n)) ≡ sum_by f (range_with_len 0 n) + f n
sum_to-more f n = ap (λ (xs : List ℕ). sum_by f xs) (range_to n) ∙ sum_by_push f (range_with_len 0 n) n

pub list_to-more : (f : ℕ → List Term) (n : ℕ) → flat_map f (range_with_len 0 (suc n)) ≡ flat_map f (range_with_len 0 n) ++ f n
list_to-more f n =
    ap (λ (xs : List ℕ). flat_map f xs) (range_to n)
    ∙ flat_map-append f (range_with_len 0 n) (n ∷ [])
    ∙ ap (λ (ts : List Term). flat_map f (range_with_len 0 n) ++ ts) (append-nil (f n))

-- where nothing stands from a on
sum_past : (f : ℕ → ℕ) (a k : ℕ) → ((v : ℕ) → a ≤ v → v < a + k → f v ≡ 0) → sum_by f (range_with_len 0 (a + k)) ≡ sum_by f (range_with_len 0 a)
sum_past f a zero none = let same : a + zero ≡ a = omega arith in ap (λ (n : ℕ). sum_by f (range_with_len 0 n)) same
sum_past f a (suc k) none =
    let same : a + suc k ≡ suc (a + k) = omega arith in
    let last : f (a + k) ≡ 0 = none (a + k) (omega arith) (omega arith) in
    let rest : sum_by f (range_with_len 0 (a + k)) ≡ sum_by f (range_with_len 0 a) = sum_past f a k (λ v low high. none v low (omega arith)) in
    ap (λ (n : ℕ). sum_by f (range_with_len 0 n)) same ∙ sum_to-more f (a + k) ∙ (let all : sum_by f (range_with_len 0 (a + k)) + f (a + k) ≡ sum_by f (range_with_len 0 a) = omega arith in all)

list_past : (f : ℕ → List Term) (a k : ℕ) → ((v : ℕ) → a ≤ v → v < a + k → f v ≡ []) → flat_map f (range_with_len 0 (a + k)) ≡ flat_map f (range_with_len 0 a)
list_past f a zero none = let same : a + zero ≡ a = omega arith in ap (λ (n : ℕ). flat_map f (range_with_len 0 n)) same
list_past f a (suc k) none =
    let same : a + suc k ≡ suc (a + k) = omega arith in
    ap (λ (n : ℕ). flat_map f (range_with_len 0 n)) same
    ∙ list_to-more f (a + k)
    ∙ ap (λ (ts : List Term). flat_map f (range_with_len 0 (a + k)) ++ ts) (none (a + k) (omega arith) (omega arith))
    ∙ append-nil _
    ∙ list_past f a k (λ v low high. none v low (omega arith))

pub sum_to-same : (f : ℕ → ℕ) (a b : ℕ) → a ≤ b → ((v : ℕ) → a ≤ v → v < b → f v ≡ 0) → sum_by f (range_with_len 0 b) ≡ sum_by f (range_with_len 0 a)
sum_to-same f a b order none =
    let same : b ≡ a + (b - a) = omega arith in
    ap (λ (n : ℕ). sum_by f (range_with_len 0 n)) same ∙ sum_past f a (b - a) (λ v low high. none v low (omega arith))

pub list_to-same : (f : ℕ → List Term) (a b : ℕ) → a ≤ b → ((v : ℕ) → a ≤ v → v < b → f v ≡ []) → flat_map f (range_with_len 0 b) ≡ flat_map f (range_with_len 0 a)
list_to-same f a b order none =
    let same : b ≡ a + (b - a) = omega arith in
    ap (λ (n : ℕ). flat_map f (range_with_len 0 n)) same ∙ list_past f a (b - a) (λ v low high. none v low (omega arith))

-- ---- sums of sums

pub sum_by-add : {X : Type 0} (f g : X → ℕ) (xs : List X) → sum_by (λ x. f x + g x) xs ≡ sum_by f xs + sum_by g xs
sum_by-add f g [] = refl
sum_by-add f g (x ∷ xs) = omega (arith, sum_by-cons (λ x. f x + g x) x xs, sum_by-cons f x xs, sum_by-cons g x xs, sum_by-add f g xs)

pub sum_by-times : {X : Type 0} (k : ℕ) (f : X → ℕ) (xs : List X) → sum_by (λ x. k * f x) xs ≡ k * sum_by f xs
sum_by-times k f [] = let none : 0 ≡ k * 0 = omega arith in none
sum_by-times k f (x ∷ xs) = omega (arith, sum_by-cons (λ x. k * f x) x xs, ap (λ (n : ℕ). k * n) (sum_by-cons f x xs), sum_by-times k f xs)

-- ---- what terms count

abbrev pub count_both : (Literal → ℕ) → ℕ → ℕ
count_both count v = count (yes v) + count (no v)

-- one literal of coefficient c
abbrev pub alone : Literal → ℕ → Literal → ℕ
alone l c m = cond (is_same l m) c 0

both_alone : (here positive : Bool) (c : ℕ) → cond (here && beq positive true) c 0 + cond (here && beq positive false) c 0 ≡ cond here c 0
both_alone true true c = let same : c + 0 ≡ c = omega arith in same
both_alone true false c = let same : 0 + c ≡ c = omega arith in same
both_alone false positive c = refl

count_both-alone : (l : Literal) (c v : ℕ) → count_both (alone l c) v ≡ cond (l.var == v) c 0
count_both-alone l c v = both_alone (l.var == v) l.positive c

alone-to : (l : Literal) (c n : ℕ) → sum_by (count_both (alone l c)) (range_with_len 0 n) ≤ cond (nat_lt l.var n) c 0
alone-to l c zero = omega arith
alone-to l c (suc n) =
    let before : sum_by (count_both (alone l c)) (range_with_len 0 n) ≤ cond (nat_lt l.var n) c 0 = alone-to l c n in
    let here : count_both (alone l c) n ≡ cond (l.var == n) c 0 = count_both-alone l c n in
    let more : sum_by (count_both (alone l c)) (range_with_len 0 (suc n)) ≡ sum_by (count_both (alone l c)) (range_with_len 0 n) + count_both (alone l c) n = sum_to-more (count_both (alone l c)) n in
    grind (arith, nat_tests)

pub count_in-cons : (t : Term) (terms : List Term) (m : Literal) → count_in (t ∷ terms) m ≡ alone t.lit t.coef m + count_in terms m
count_in-cons t terms m = sum_by-cons (λ (u : Term). cond (is_same u.lit m) u.coef 0) t terms

cond-le : (b : Bool) (c : ℕ) → cond b c 0 ≤ c
cond-le true c = omega arith
cond-le false c = omega arith

-- together they count no more than their coefficients
pub counted-covered : (terms : List Term) → IsCovered (count_in terms) (weight_of terms)
counted-covered [] top =
    let none : sum_by (count_both (count_in [])) (variables_to top) ≡ 0 = fold_stays (λ (a v : ℕ). a + count_both (count_in []) v) 0 (λ v. refl) (variables_to top) in
    omega arith
counted-covered (t ∷ terms) top =
    let split : sum_by (count_both (count_in (t ∷ terms))) (variables_to top) ≤ sum_by (λ v. count_both (alone t.lit t.coef) v + count_both (count_in terms) v) (variables_to top) =
    sum_by-le-sum_by (count_both (count_in (t ∷ terms))) (λ v. count_both (alone t.lit t.coef) v + count_both (count_in terms) v) (variables_to top)
    (λ v. omega (arith, count_in-cons t terms (yes v), count_in-cons t terms (no v))) in
    omega (
      arith,
      split,
      sum_by-add (count_both (alone t.lit t.coef)) (count_both (count_in terms)) (variables_to top),
      alone-to t.lit t.coef (top + 1),
      cond-le (nat_lt t.lit.var (top + 1)) t.coef,
      counted-covered terms top,
      sum_by-cons (λ (u : Term). u.coef) t terms,
    )

-- a row more, times a factor
pub covered-plus : (count : Literal → ℕ) (total factor : ℕ) (terms : List Term) → IsCovered count total → IsCovered (λ m. count m + factor * count_in terms m) (total + factor * weight_of terms)
covered-plus count total factor terms covered top =
    let split : sum_by (count_both (λ m. count m + factor * count_in terms m)) (variables_to top) ≤ sum_by (λ v. count_both count v + factor * count_both (count_in terms) v) (variables_to top) =
    sum_by-le-sum_by (count_both (λ m. count m + factor * count_in terms m)) (λ v. count_both count v + factor * count_both (count_in terms) v) (variables_to top) (λ v. omega arith) in
    omega (
      arith,
      split,
      sum_by-add (count_both count) (λ v. factor * count_both (count_in terms) v) (variables_to top),
      sum_by-times factor (count_both (count_in terms)) (variables_to top),
      covered top,
      mul-le-mul_left factor (counted-covered terms top),
    )

most_by_sign : (count : Literal → ℕ) (total v : ℕ) (positive : Bool) → count_both count v ≤ total → count (record { var = v; positive = positive }) ≤ total
most_by_sign count total v true both = omega arith
most_by_sign count total v false both = omega arith

-- no literal counts more than the total
pub covered-most : (count : Literal → ℕ) (total : ℕ) → IsCovered count total → (m : Literal) → count m ≤ total
covered-most count total covered m =
    let next : suc m.var ≡ m.var + 1 = omega arith in
    most_by_sign count total m.var m.positive
    (omega (arith, sum_to-more (count_both count) m.var, ap (λ (n : ℕ). sum_by (count_both count) (range_with_len 0 n)) next, covered m.var))
