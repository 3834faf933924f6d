-- Sums of rows: added up, each literal against its negation, and divided.
use Rattle.std.specs.Prelude.{ℕ, ◌+◌, ◌-◌, ◌*◌, ◌<◌, ◌≤◌, ◌==◌, Bool, ◌&&◌, ◌||◌, nat_lt, min, max, if◌then◌else◌}
use Rattle.std.specs.Prelude.{List, [], ◌∷◌, map}
use Rattle.std.specs.Bool.{beq}
use Rattle.std.specs.Int.{div_ceil}
use Rattle.std.specs.List.{All, AllPairs, flat_map, range_with_len, sum_by}
use Rattle.rows.specs.Literals.{Literal, yes, no}
use Rattle.rows.specs.Rows.{Row}
use Rattle.rows.specs.declared.lit.Term.{Term}

-- ---- what terms add up to

-- a variable with a sign
abbrev pub literal : ℕ → Bool → Literal
literal v positive = record { var = v; positive = positive }

-- whether two literals are one
abbrev pub is_same : Literal → Literal → Bool
is_same l m = l.var == m.var && beq l.positive m.positive

-- the coefficients of a literal
abbrev pub count_in : List Term → Literal → ℕ
count_in terms l = sum_by (λ t. if is_same t.lit l then t.coef else 0) terms

-- all coefficients
abbrev pub weight_of : List Term → ℕ
weight_of terms = sum_by (λ t. t.coef) terms

-- the greatest variable, or 0
abbrev pub top_of : List Term → ℕ
top_of [] = 0
top_of (t ∷ terms) = max t.lit.var (top_of terms)

-- ---- sums

-- What was added up: for each literal, for all literals, and of the degrees. No variable is above `top`.
pub record Totals : Type 0 where
  pub top : ℕ
  pub count : Literal → ℕ
  pub weight : ℕ
  pub degree : ℕ

abbrev pub no_totals : Totals
no_totals = record { top = 0; count = λ l. 0; weight = 0; degree = 0 }

-- a row more, times a factor
abbrev pub plus : Totals → ℕ → Row → Totals
plus sum factor row = record {
  top = max sum.top (top_of row.terms);
  count = λ l. sum.count l + factor * count_in row.terms l;
  weight = sum.weight + factor * weight_of row.terms;
  degree = sum.degree + factor * row.degree;
}

-- the greatest total that is allowed: 2^127 - 1
abbrev pub widest : ℕ
widest = 170141183460469231731687303715884105727

-- All coefficients together count, also those of a literal and its negation, which cancel later.
abbrev pub is_too_wide : Totals → Bool
is_too_wide sum = nat_lt widest sum.weight || nat_lt widest sum.degree

-- ---- the row of a sum

-- a variable that counts a where it is true and b where it is false: what is left of the larger
abbrev pub left_over : ℕ → ℕ → ℕ → List Term
left_over v a b =
    if nat_lt b a then record { coef = a - b; lit = yes v } ∷ []
    else (if nat_lt a b then record { coef = b - a; lit = no v } ∷ [] else [])

-- the variables up to the greatest; nothing counts at 0
abbrev pub variables_to : ℕ → List ℕ
variables_to top = range_with_len 0 (top + 1)

-- Each literal against its negation: what both count is taken off them, and off the degree, which stops at 0. What is
-- left stands in the order of the variables.
abbrev pub cancelled : Totals → Row
cancelled sum = record {
  terms = flat_map (λ v. left_over v (sum.count (yes v)) (sum.count (no v))) (variables_to sum.top);
  degree = sum.degree - sum_by (λ v. min (sum.count (yes v)) (sum.count (no v))) (variables_to sum.top);
}

-- each number divided, rounding up
abbrev pub divided_term : ℕ → Term → Term
divided_term divisor t = record { coef = div_ceil t.coef divisor; lit = t.lit }

abbrev pub divided : ℕ → Row → Row
divided divisor row = record { terms = map (divided_term divisor) row.terms; degree = div_ceil row.degree divisor }

-- ---- wide rows

-- coefficients from 1, variables in order, and totals that aren't too wide
pub record IsWide (row : Row) : Type 0 where
  pub coefs : All (λ t. 1 ≤ t.coef) row.terms
  pub ascending : AllPairs (λ t u. t.lit.var < u.lit.var) row.terms
  pub weight : weight_of row.terms ≤ widest
  pub degree : row.degree ≤ widest
