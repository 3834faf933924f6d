-- What holds of a sum of rows where the rows hold that it adds: its row, cancelled and divided, holds too.
use Rattle.std.proofs.Common.{◌≡◌, ℕ, zero, suc, ◌+◌, ◌*◌, ◌<◌, ◌≤◌, Bool, true, false}
use Rattle.std.proofs.Common.{cond, if◌then◌else◌, List, [], ◌∷◌, map, Option, Some, None}
use Rattle.std.proofs.Common.{arith, ap}
use Rattle.std.proofs.Common.{lt_of_mul-lt-mul_right}
use Rattle.std.specs.Prelude.{Result, Ok, Err, IfOk, IfSome, min}
use Rattle.std.specs.Int.{div_ceil}
use Rattle.std.specs.List.{All, slice_get}
use Rattle.std.proofs.Math.Nat.{div-zero, mod-zero}
use Rattle.std.proofs.lemmas.Grind.{div_ceil_times}
use Rattle.std.proofs.lemmas.List.Elements.{All-head, All-tail}
use Rattle.std.proofs.lemmas.List.Sums.{sum_by-cons}
use Rattle.rows.specs.Rows.{Row, Satisfies, SatisfiesAll, is_true, weight}
use Rattle.rows.specs.declared.lit.Term.{Term}
use Rattle.rows.specs.Sums.{Totals, cancelled, divided, divided_term, is_too_wide}
use Rattle.rows.specs.Sums.{no_totals, plus}
use Rattle.rows.proofs.SumLaws.{IsMet, cancelled_holds, no_totals_met, plus_met}
use Rattle.refutation.specs.Following.{add_parts, add_row, row_numbered, row_of}
use Rattle.refutation.specs.declared.step.Part.{Part}
use Rattle.refutation.specs.declared.verdict.Cause.{Cause}
use Rattle.refutation.specs.declared.verdict.Cause.TheVariants.{TooWide}

-- ---- division

abbrev true_coef : (ℕ → Bool) → Term → ℕ
true_coef values t = if is_true values t.lit then t.coef else 0

-- a quotient rounded up is the least number that times the divisor is enough
ceil-least : (a k d : ℕ) → a ≤ k * suc d → div_ceil a (suc d) ≤ k
ceil-least a k d h =
    let bounds = div_ceil_times a (suc d) (omega arith) in
    let times : div_ceil a (suc d) * suc d < (k + 1) * suc d = omega (arith, bounds.1) in
    let least : div_ceil a (suc d) < k + 1 = lt_of_mul-lt-mul_right (suc d) times in
    omega (arith, least)

ceil-enough : (a d : ℕ) → a ≤ div_ceil a (suc d) * suc d
ceil-enough a d = (div_ceil_times a (suc d) (omega arith)).0

ceil-by_zero : (a : ℕ) → div_ceil a zero ≡ min 1 a
ceil-by_zero a = omega (arith, div-zero a, mod-zero a)

ceil-mono : (a b d : ℕ) → a ≤ b → div_ceil a d ≤ div_ceil b d
ceil-mono a b zero h = omega (arith, ceil-by_zero a, ceil-by_zero b)
ceil-mono a b (suc d) h = ceil-least a (div_ceil b (suc d)) d (omega (arith, ceil-enough b d))

ceil-add : (a b d : ℕ) → div_ceil (a + b) d ≤ div_ceil a d + div_ceil b d
ceil-add a b zero = omega (arith, ceil-by_zero (a + b), ceil-by_zero a, ceil-by_zero b)
ceil-add a b (suc d) =
    ceil-least (a + b) (div_ceil a (suc d) + div_ceil b (suc d)) d
    (omega (arith, ceil-enough a d, ceil-enough b d))

ceil-none : (d : ℕ) → div_ceil 0 d ≤ 0
ceil-none zero = omega (arith, ceil-by_zero 0)
ceil-none (suc d) = ceil-least 0 0 d (omega arith)

ceil-cond : (test : Bool) (coef d : ℕ) → div_ceil (cond test coef 0) d ≤ cond test (div_ceil coef d) 0
ceil-cond true coef d = omega arith
ceil-cond false coef d = ceil-none d

ceil-weight : (values : ℕ → Bool) (d : ℕ) (terms : List Term)
    → div_ceil (weight values terms) d ≤ weight values (map (divided_term d) terms)
ceil-weight values d [] = ceil-none d
ceil-weight values d (t ∷ terms) =
    let parts : div_ceil (weight values (t ∷ terms)) d ≡ div_ceil (true_coef values t + weight values terms) d =
    ap (λ (n : ℕ). div_ceil n d) (sum_by-cons (true_coef values) t terms) in
    let added : div_ceil (true_coef values t + weight values terms) d
    ≤ div_ceil (true_coef values t) d + div_ceil (weight values terms) d =
    ceil-add (true_coef values t) (weight values terms) d in
    let head : div_ceil (true_coef values t) d ≤ true_coef values (divided_term d t) =
    ceil-cond (is_true values t.lit) t.coef d in
    let tail : div_ceil (weight values terms) d ≤ weight values (map (divided_term d) terms) =
    ceil-weight values d terms in
    let whole : weight values (divided_term d t ∷ map (divided_term d) terms)
    ≡ true_coef values (divided_term d t) + weight values (map (divided_term d) terms) =
    sum_by-cons (true_coef values) (divided_term d t) (map (divided_term d) terms) in
    omega (arith, parts, added, head, tail, whole)

divided_holds : (values : ℕ → Bool) (row : Row) (d : ℕ) → Satisfies values row → Satisfies values (divided d row)
divided_holds values row d met =
    let less : div_ceil row.degree d ≤ div_ceil (weight values row.terms) d =
    ceil-mono row.degree (weight values row.terms) d met in
    let more : div_ceil (weight values row.terms) d ≤ weight values (map (divided_term d) row.terms) =
    ceil-weight values d row.terms in
    omega (arith, less, more)

-- ---- steps

got_holds : (P : Row → Type 0) (rows : List Row) (k : ℕ) → All P rows → IfSome (slice_get rows k) P
got_holds P [] k all = tt
got_holds P (row ∷ rows) zero all = All-head P row rows all
got_holds P (row ∷ rows) (suc k) all = got_holds P rows k (All-tail P row rows all)

-- the row that has a number holds where all rows hold
pub row_numbered-holds : (P : Row → Type 0) (rows : List Row) (number : ℕ) → All P rows
    → IfSome (row_numbered rows number) P
row_numbered-holds P rows zero all = tt
row_numbered-holds P rows (suc k) all = got_holds P rows k all

if_ok-cond : (P : Totals → Type 0) (test : Bool) (x y : Result Totals Cause) → IfOk x P → IfOk y P
    → IfOk (cond test x y) P
if_ok-cond P true x y p q = p
if_ok-cond P false x y p q = q

add_row_met : (values : ℕ → Bool) (found : Option Row) → IfSome found (Satisfies values) → (factor : ℕ)
    → (sum : Totals) → IsMet values sum → (rest : Totals → Result Totals Cause)
    → ((next : Totals) → IsMet values next → IfOk (rest next) (IsMet values))
    → IfOk (add_row found factor sum rest) (IsMet values)
add_row_met values None holds factor sum met rest go_on = tt
add_row_met values (Some row) holds factor sum met rest go_on =
    if_ok-cond (IsMet values) (is_too_wide (plus sum factor row)) (Err TooWide) (rest (plus sum factor row)) tt
    (go_on (plus sum factor row) (plus_met values sum factor row met holds))

parts_met : (values : ℕ → Bool) (rows : List Row) → SatisfiesAll values rows → (parts : List Part) (sum : Totals)
    → IsMet values sum → IfOk (add_parts rows parts sum) (IsMet values)
parts_met values rows all [] sum met = met
parts_met values rows all (part ∷ parts) sum met =
    add_row_met values (row_numbered rows part.row) (row_numbered-holds (Satisfies values) rows part.row all)
    part.factor sum met (add_parts rows parts) (λ next. parts_met values rows all parts next)

row_of_holds : (values : ℕ → Bool) (divisor : ℕ) (sum : Result Totals Cause) → IfOk sum (IsMet values)
    → IfOk (row_of divisor sum) (Satisfies values)
row_of_holds values divisor (Ok sum) met =
    divided_holds values (cancelled sum) divisor (cancelled_holds values sum met)
row_of_holds values divisor (Err cause) met = tt

-- a sum of rows holds where the rows hold
pub linear_holds : (values : ℕ → Bool) (rows : List Row) → SatisfiesAll values rows → (parts : List Part)
    → (divisor : ℕ) → IfOk (row_of divisor (add_parts rows parts no_totals)) (Satisfies values)
linear_holds values rows all parts divisor =
    row_of_holds values divisor (add_parts rows parts no_totals)
    (parts_met values rows all parts no_totals (no_totals_met values))
