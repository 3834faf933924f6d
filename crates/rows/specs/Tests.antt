-- Rows as tests, and how many literals are true.
use Rattle.std.specs.Prelude.{ℕ, Bool, nat_le, List}
use Rattle.std.specs.List.{count_by, list_all}
use Rattle.rows.specs.Literals.{Literal}
use Rattle.rows.specs.Rows.{Row, is_true, weight}

-- whether the values meet the row
abbrev pub satisfied : (ℕ → Bool) → Row → Bool
satisfied values row = nat_le row.degree (weight values row.terms)

-- whether they meet each of the rows
abbrev pub all_satisfied : (ℕ → Bool) → List Row → Bool
all_satisfied values rows = list_all (satisfied values) rows

-- how many of the literals are true
abbrev pub true_count : (ℕ → Bool) → List Literal → ℕ
true_count values literals = count_by (is_true values) literals
