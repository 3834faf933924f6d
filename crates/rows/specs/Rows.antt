-- Pseudo-Boolean rows: "at least so much" of weighted literals.
use Rattle.std.specs.Prelude.{◌≢◌, ℕ, ◌≤◌, Bool, not, List, length, if◌then◌else◌}
use Rattle.std.specs.List.{All, AllPairs, sum_by}
use Rattle.rows.specs.Literals.{Literal}
use Rattle.rows.specs.declared.lit.Term.{Term}

-- terms and a degree: the coefficients of the true literals are to sum to at least the degree
pub record Row : Type 0 where
  pub terms : List Term
  pub degree : ℕ

-- coefficients are at least 1, and each variable stands at most once
pub record IsRow (row : Row) : Type 0 where
  pub coefs : All (λ t. 1 ≤ t.coef) row.terms
  pub variables : AllPairs (λ t u. t.lit.var ≢ u.lit.var) row.terms

-- whether a literal is true where the variables have these values
abbrev pub is_true : (ℕ → Bool) → Literal → Bool
is_true values l = if l.positive then values l.var else not (values l.var)

-- what the true literals sum to
abbrev pub weight : (ℕ → Bool) → List Term → ℕ
weight values terms = sum_by (λ t. if is_true values t.lit then t.coef else 0) terms

-- the values meet the row
abbrev pub Satisfies : (ℕ → Bool) → Row → Type 0
Satisfies values row = row.degree ≤ weight values row.terms

-- the values meet each of the rows
abbrev pub SatisfiesAll : (ℕ → Bool) → List Row → Type 0
SatisfiesAll values rows = All (Satisfies values) rows

-- how many terms some rows have
abbrev pub size_of : List Row → ℕ
size_of rows = sum_by (λ r. length r.terms) rows
