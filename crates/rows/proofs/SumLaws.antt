-- What a sum's row says: it holds where the rows hold that were added.
use Rattle.std.proofs.Common.{◌≡◌, ℕ, zero, suc, ◌+◌, ◌-◌, ◌*◌, ◌<◌, ◌≤◌, ◌==◌, Bool, true, false, not, ◌&&◌, cond, List, [], ◌∷◌, map, max, min, nat_lt}
use Rattle.std.proofs.Common.{refl, inl, inr, arith, ap, subst, ◌∙◌}
use Rattle.std.specs.Bool.{beq}
use Rattle.std.specs.Int.{div_ceil}
use Rattle.std.specs.List.{flat_map, range_with_len, sum_by}
use Rattle.std.proofs.Math.Nat.{mul-le-mul_left}
use Rattle.std.proofs.lemmas.Bool.{cases_lt, cond_both, eq-eqb, ltb-false, ltb-true}
use Rattle.std.proofs.lemmas.Grind.{div_ceil_times}
use Rattle.std.proofs.lemmas.List.FromFn.{get_or-range_with_len, length-range_with_len}
use Rattle.std.proofs.lemmas.List.Sums.{get_or-le-sum_by, sum_by-append, sum_by-cons, sum_by-le-sum_by}
use Rattle.std.proofs.lemmas.Nat.{mul-le}
use Rattle.rows.specs.Literals.{Literal, yes, no}
use Rattle.rows.specs.Rows.{Row, Satisfies, is_true, weight}
use Rattle.rows.specs.declared.lit.Term.{Term}
use Rattle.rows.specs.Sums.{Totals, cancelled, count_in, divided, divided_term, is_same, left_over, no_totals, plus, top_of, variables_to}
use Rattle.rows.specs.Tables.{common_at, left_at}
use Rattle.rows.proofs.CountLemmas.{alone, count_in-cons, list_to-more, sum_by-add, sum_by-times, sum_to-more}
use Rattle.rows.proofs.WideLemmas.{div_ceil-le}

-- the literal of a variable that is true
abbrev pub true_literal : (ℕ → Bool) → ℕ → Literal
true_literal values v = record { var = v; positive = values v }

-- what the true literals count reaches the degree
abbrev pub IsMet : (ℕ → Bool) → Totals → Type 0
IsMet values sum = sum.degree ≤ sum_by (λ v. sum.count (true_literal values v)) (variables_to sum.top)

-- ---- sums over more variables

element-le : (f : ℕ → ℕ) (v n : ℕ) → v < n → f v ≤ sum_by f (range_with_len 0 n)
element-le f v n below =
    let here : 0 + v ≡ v = omega arith in
    omega (arith, get_or-le-sum_by f (range_with_len 0 n) v 0 (omega (arith, length-range_with_len 0 n)), ap f (get_or-range_with_len 0 n v 0 below ∙ here))

past-le : (f : ℕ → ℕ) (a k : ℕ) → sum_by f (range_with_len 0 a) ≤ sum_by f (range_with_len 0 (a + k))
past-le f a zero =
    let same : a ≡ a + zero = omega arith in
    subst (λ (n : ℕ). sum_by f (range_with_len 0 a) ≤ sum_by f (range_with_len 0 n)) same (let reached : sum_by f (range_with_len 0 a) ≤ sum_by f (range_with_len 0 a) = omega arith in reached)
past-le f a (suc k) =
    let same : suc (a + k) ≡ a + suc k = omega arith in
    subst (λ (n : ℕ). sum_by f (range_with_len 0 a) ≤ sum_by f (range_with_len 0 n)) same
    (let reached : sum_by f (range_with_len 0 a) ≤ sum_by f (range_with_len 0 (suc (a + k))) = omega (arith, past-le f a k, sum_to-more f (a + k)) in reached)

longer-le : (f : ℕ → ℕ) (a b : ℕ) → a ≤ b → sum_by f (range_with_len 0 a) ≤ sum_by f (range_with_len 0 b)
longer-le f a b order =
    let same : a + (b - a) ≡ b = omega arith in
    subst (λ (n : ℕ). sum_by f (range_with_len 0 a) ≤ sum_by f (range_with_len 0 n)) same (past-le f a (b - a))

-- ---- adding

same_sign : (here positive value : Bool) → here ≡ true → (here && beq positive value) ≡ cond positive value (not value)
same_sign here true true is = ap (λ (b : Bool). b && true) is
same_sign here true false is = ap (λ (b : Bool). b && false) is
same_sign here false true is = ap (λ (b : Bool). b && false) is
same_sign here false false is = ap (λ (b : Bool). b && true) is

is_same-true : (values : ℕ → Bool) (l : Literal) → is_same l (true_literal values l.var) ≡ is_true values l
is_same-true values l = same_sign (l.var == l.var) l.positive (values l.var) (eq-eqb l.var l.var refl)

-- the true terms are counted at the true literals
weight-le-count : (values : ℕ → Bool) (terms : List Term) (n : ℕ) → top_of terms < n → weight values terms ≤ sum_by (λ v. count_in terms (true_literal values v)) (range_with_len 0 n)
weight-le-count values [] n above = omega arith
weight-le-count values (t ∷ terms) n above =
    let head : ℕ → ℕ = λ v. alone t.lit t.coef (true_literal values v) in
    let rest : ℕ → ℕ = λ v. count_in terms (true_literal values v) in
    let split : sum_by (λ v. head v + rest v) (range_with_len 0 n) ≤ sum_by (λ v. count_in (t ∷ terms) (true_literal values v)) (range_with_len 0 n) =
    sum_by-le-sum_by (λ v. head v + rest v) (λ v. count_in (t ∷ terms) (true_literal values v)) (range_with_len 0 n)
    (λ v. omega (arith, count_in-cons t terms (true_literal values v))) in
    let first : head t.lit.var ≡ cond (is_true values t.lit) t.coef 0 = ap (λ (b : Bool). cond b t.coef 0) (is_same-true values t.lit) in
    omega (
      arith,
      split,
      first,
      sum_by-add head rest (range_with_len 0 n),
      element-le head t.lit.var n (omega arith),
      weight-le-count values terms n (omega arith),
      sum_by-cons (λ (u : Term). cond (is_true values u.lit) u.coef 0) t terms,
    )

-- no row
pub no_totals_met : (values : ℕ → Bool) → IsMet values no_totals
no_totals_met values = omega arith

-- a row more that holds, times a factor
pub plus_met : (values : ℕ → Bool) (sum : Totals) (factor : ℕ) (row : Row) → IsMet values sum → Satisfies values row → IsMet values (plus sum factor row)
plus_met values sum factor row met holds =
    let top : ℕ = max sum.top (top_of row.terms) in
    let old : ℕ → ℕ = λ v. sum.count (true_literal values v) in
    let more : ℕ → ℕ = λ v. count_in row.terms (true_literal values v) in
    let reached : row.degree ≤ sum_by more (variables_to top) = omega (arith, holds, weight-le-count values row.terms (top + 1) (omega arith)) in
    omega (
      arith,
      met,
      longer-le old (sum.top + 1) (top + 1) (omega arith),
      mul-le-mul_left factor reached,
      sum_by-add old (λ v. factor * more v) (variables_to top),
      sum_by-times factor more (variables_to top),
    )

-- ---- cancelling

by_value : (count : Literal → ℕ) (v : ℕ) (value : Bool) → count (record { var = v; positive = value }) ≡ cond value (count (yes v)) (count (no v))
by_value count v true = refl
by_value count v false = refl

yes_left : (value : Bool) (a b : ℕ) → b < a → cond value a b ≤ 0 + cond value (a - b) 0 + min a b
yes_left true a b above = omega arith
yes_left false a b above = omega arith

no_left : (value : Bool) (a b : ℕ) → a < b → cond value a b ≤ 0 + cond (not value) (b - a) 0 + min a b
no_left true a b above = omega arith
no_left false a b above = omega arith

none_left : (value : Bool) (a b : ℕ) → (b < a → ⊥) → (a < b → ⊥) → cond value a b ≤ 0 + min a b
none_left true a b low high = omega (arith, low, high)
none_left false a b low high = omega (arith, low, high)

left_holds : (values : ℕ → Bool) (v a b : ℕ) → cond (values v) a b ≤ weight values (left_over v a b) + min a b
left_holds values v a b =
    cond_both (nat_lt b a) (record { coef = a - b; lit = yes v } ∷ []) (cond (nat_lt a b) (record { coef = b - a; lit = no v } ∷ []) [])
    (λ (ts : List Term). cond (values v) a b ≤ weight values ts + min a b)
    (λ above. yes_left (values v) a b (ltb-true b a above))
    (λ low. cond_both (nat_lt a b) (record { coef = b - a; lit = no v } ∷ []) [] (λ (ts : List Term). cond (values v) a b ≤ weight values ts + min a b)
    (λ above. no_left (values v) a b (ltb-true a b above))
    (λ high. none_left (values v) a b (λ lt. omega (arith, ltb-false b a low)) (λ lt. omega (arith, ltb-false a b high))))

all_left_hold : (values : ℕ → Bool) (count : Literal → ℕ) (n : ℕ) → sum_by (λ v. count (true_literal values v)) (range_with_len 0 n)
    ≤ weight values (flat_map (left_at count) (range_with_len 0 n)) + sum_by (common_at count) (range_with_len 0 n)
all_left_hold values count zero = omega arith
all_left_hold values count (suc n) =
    let left : List Term = flat_map (left_at count) (range_with_len 0 n) in
    omega (
      arith,
      all_left_hold values count n,
      sum_to-more (λ v. count (true_literal values v)) n,
      sum_to-more (common_at count) n,
      by_value count n (values n),
      left_holds values n (count (yes n)) (count (no n)),
      ap (weight values) (list_to-more (left_at count) n),
      sum_by-append (λ (u : Term). cond (is_true values u.lit) u.coef 0) left (left_at count n),
    )

pub cancelled_holds : (values : ℕ → Bool) (sum : Totals) → IsMet values sum → Satisfies values (cancelled sum)
cancelled_holds values sum met = omega (arith, met, all_left_hold values sum.count (sum.top + 1))

-- ---- dividing

div_ceil-mono : (a b d : ℕ) → 1 ≤ d → a ≤ b → div_ceil a d ≤ div_ceil b d
div_ceil-mono a b d positive order =
    elim (cases_lt (div_ceil b d) (div_ceil a d)) [
      | inl above ↦ absurd (omega (arith, mul-le (div_ceil b d + 1) d (div_ceil a d) d (omega arith) (omega arith), (div_ceil_times a d (omega arith)).1, (div_ceil_times b d (omega arith)).0))
      | inr within ↦ within
    ]

div_ceil-add : (a b d : ℕ) → 1 ≤ d → div_ceil (a + b) d ≤ div_ceil a d + div_ceil b d
div_ceil-add a b d positive =
    elim (cases_lt (div_ceil a d + div_ceil b d) (div_ceil (a + b) d)) [
      | inl above ↦ absurd (omega (
        arith,
        mul-le (div_ceil a d + div_ceil b d + 1) d (div_ceil (a + b) d) d (omega arith) (omega arith),
        (div_ceil_times (a + b) d (omega arith)).1,
        (div_ceil_times a d (omega arith)).0,
        (div_ceil_times b d (omega arith)).0,
      ))
      | inr within ↦ within
    ]

div_ceil-cond : (b : Bool) (c d : ℕ) → 1 ≤ d → div_ceil (cond b c 0) d ≤ cond b (div_ceil c d) 0
div_ceil-cond true c d positive = omega arith
div_ceil-cond false c d positive = div_ceil-le 0 d positive

weight-divided : (values : ℕ → Bool) (divisor : ℕ) (terms : List Term) → 1 ≤ divisor → div_ceil (weight values terms) divisor ≤ weight values (map (divided_term divisor) terms)
weight-divided values divisor [] positive = div_ceil-le 0 divisor positive
weight-divided values divisor (t ∷ terms) positive =
    let whole : div_ceil (weight values (t ∷ terms)) divisor ≡ div_ceil (cond (is_true values t.lit) t.coef 0 + weight values terms) divisor =
    ap (λ (n : ℕ). div_ceil n divisor) (sum_by-cons (λ (u : Term). cond (is_true values u.lit) u.coef 0) t terms) in
    omega (
      arith,
      whole,
      div_ceil-add (cond (is_true values t.lit) t.coef 0) (weight values terms) divisor positive,
      div_ceil-cond (is_true values t.lit) t.coef divisor positive,
      weight-divided values divisor terms positive,
      sum_by-cons (λ (u : Term). cond (is_true values u.lit) u.coef 0) (divided_term divisor t) (map (divided_term divisor) terms),
    )

pub divided_holds : (values : ℕ → Bool) (divisor : ℕ) (row : Row) → 1 ≤ divisor → Satisfies values row → Satisfies values (divided divisor row)
divided_holds values divisor row positive holds =
    omega (arith, div_ceil-mono row.degree (weight values row.terms) divisor positive holds, weight-divided values divisor row.terms positive)

-- the row of a sum
pub sum_holds : (values : ℕ → Bool) (sum : Totals) (divisor : ℕ) → 1 ≤ divisor → IsMet values sum → Satisfies values (divided divisor (cancelled sum))
sum_holds values sum divisor positive met = divided_holds values divisor (cancelled sum) positive (cancelled_holds values sum met)
