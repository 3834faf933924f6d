-- The objective row is the last row that doesn't begin with a positive literal.
use Rattle.std.proofs.Common.{◌≡◌, ℕ, ◌+◌, ◌-◌, ◌<◌, ◌≤◌, zero, suc, true, false, List, [], ◌∷◌, ◌++◌, map, length}
use Rattle.std.proofs.Common.{length-append, refl, arith, ap, subst, sym, ◌∙◌}
use Rattle.std.proofs.lemmas.List.Elements.{All-append, All-head, All-map, All-nil, All-tail}
use Rattle.std.specs.List.{All, range_with_len, slice_get}
use Rattle.std.specs.Prelude.{IfSome}
use Rattle.rows.specs.Rows.{IsRow, Row}
use Rattle.rows.specs.declared.lit.Term.{Term}
use Rattle.league.specs.Instance.{Instance}
use Rattle.bound_rows.specs.BoundRows.{base_rows, bound_rows, first_unit, league_groups}
use Rattle.bound_rows.specs.Softening.{Group, costs, costs_from, objective_row, one_before, order_rows}
use Rattle.bound_rows.specs.Softening.{softened_rows}
use Rattle.command_rows.specs.SeenRows.{begins_positive}

-- the rows before the objective row
abbrev pub rows_before : Instance → List Row
rows_before league = base_rows league ++ softened_rows (first_unit league) (league_groups league)

-- ---- which rows begin so

abbrev pub BeginPositive : List Row → Type 0
BeginPositive rows = All (λ r. begins_positive r.terms ≡ true) rows

pub orders_positive : (first : ℕ) (groups : List Group) → BeginPositive (order_rows first groups)
orders_positive first [] = All-nil (λ (r : Row). begins_positive r.terms ≡ true)
orders_positive first (g ∷ groups) =
    let positive : Row → Type 0 = λ r. begins_positive r.terms ≡ true in
    All-append positive (map one_before (range_with_len first (g.units - 1))) (order_rows (first + g.units) groups)
    (All-map positive one_before (range_with_len first (g.units - 1)) (λ k d within. refl))
    (orders_positive (first + g.units) groups)

costs_from-negative : (penalty first count : ℕ) (others : List Term) → begins_positive others ≡ false
    → begins_positive (costs_from penalty first count ++ others) ≡ false
costs_from-negative penalty first zero others negative = negative
costs_from-negative penalty first (suc count) others negative = refl

pub costs-negative : (first : ℕ) (groups : List Group) → begins_positive (costs first groups) ≡ false
costs-negative first [] = refl
costs-negative first (g ∷ groups) =
    costs_from-negative g.penalty first g.units (costs (first + g.units) groups)
    (costs-negative (first + g.units) groups)

-- ---- from the end

opposed : (terms other : List Term) → terms ≡ other → begins_positive terms ≡ true → begins_positive other ≡ false → ⊥
opposed terms other same positive negative =
    let no : true ≡ false = sym positive ∙ ap begins_positive same ∙ negative in
    absurd (cc)

behind : (rows : List Row) (k : ℕ) (terms : List Term) → BeginPositive rows → k < length rows
    → IfSome (slice_get rows k) (λ r. terms ≡ r.terms) → begins_positive terms ≡ true
behind [] k terms all within got = absurd (omega arith)
behind (row ∷ rows) zero terms all within got =
    ap begins_positive got ∙ All-head (λ (r : Row). begins_positive r.terms ≡ true) row rows all
behind (row ∷ rows) (suc k) terms all within got =
    behind rows k terms (All-tail (λ (r : Row). begins_positive r.terms ≡ true) row rows all) (omega (arith, within)) got

-- terms that begin otherwise, with no more behind them than rows that begin so, are those of the row
pub last-is : (before : List Row) (row : Row) (after : List Row) (k : ℕ) (terms : List Term) → BeginPositive after
    → length before ≤ k → k < length (before ++ row ∷ [] ++ after)
    → IfSome (slice_get (before ++ row ∷ [] ++ after) k) (λ r. terms ≡ r.terms)
    → begins_positive terms ≡ false → terms ≡ row.terms
last-is [] row after zero terms all from within got negative = got
last-is [] row after (suc k) terms all from within got negative =
    absurd (opposed terms terms refl (behind after k terms all (omega (arith, within)) got) negative)
last-is (x ∷ before) row after zero terms all from within got negative = absurd (omega (arith, from))
last-is (x ∷ before) row after (suc k) terms all from within got negative =
    last-is before row after k terms all (omega (arith, from)) (omega (arith, within)) got negative

-- terms that begin so stand behind the row
pub last-before : (before : List Row) (row : Row) (after : List Row) (k : ℕ) (terms : List Term)
    → begins_positive row.terms ≡ false → length before ≤ k
    → IfSome (slice_get (before ++ row ∷ [] ++ after) k) (λ r. terms ≡ r.terms)
    → begins_positive terms ≡ true → length before < k
last-before [] row after zero terms negative from got positive = absurd (opposed terms row.terms got positive negative)
last-before [] row after (suc k) terms negative from got positive = omega arith
last-before (x ∷ before) row after zero terms negative from got positive = absurd (omega (arith, from))
last-before (x ∷ before) row after (suc k) terms negative from got positive =
    let later = last-before before row after k terms negative (omega (arith, from)) got positive in
    omega (arith, later)

-- ---- the same of bound rows

-- the terms at a place
abbrev pub AreAt : List Row → ℕ → List Term → Type 0
AreAt rows k terms = IfSome (slice_get rows k) (λ r. terms ≡ r.terms)

pub costs-found : (league : Instance) (bound : ℕ) (rows : List Row) (k : ℕ) (terms : List Term)
    → rows ≡ bound_rows league bound → length (rows_before league) ≤ k → k < length rows → AreAt rows k terms
    → begins_positive terms ≡ false → terms ≡ costs (first_unit league) (league_groups league)
costs-found league bound rows k terms are from within got negative =
    let first : ℕ = first_unit league in
    let groups : List Group = league_groups league in
    last-is (rows_before league) (objective_row first groups bound) (order_rows first groups) k terms
    (orders_positive first groups) from (subst (λ (rs : List Row). k < length rs) are within)
    (subst (λ (rs : List Row). AreAt rs k terms) are got) negative

pub costs-before : (league : Instance) (bound : ℕ) (rows : List Row) (k : ℕ) (terms : List Term)
    → rows ≡ bound_rows league bound → length (rows_before league) ≤ k → AreAt rows k terms
    → begins_positive terms ≡ true → length (rows_before league) < k
costs-before league bound rows k terms are from got positive =
    let first : ℕ = first_unit league in
    let groups : List Group = league_groups league in
    last-before (rows_before league) (objective_row first groups bound) (order_rows first groups) k terms
    (costs-negative first groups) from (subst (λ (rs : List Row). AreAt rs k terms) are got) positive

-- there is a row behind those before it
pub rows-enough : (league : Instance) (bound : ℕ) (rows : List Row) → rows ≡ bound_rows league bound
    → length (rows_before league) < length rows
rows-enough league bound rows are =
    let first : ℕ = first_unit league in
    let groups : List Group = league_groups league in
    let before : List Row = rows_before league in
    let row : List Row = objective_row first groups bound ∷ [] in
    omega (
      arith,
      ap (λ (rs : List Row). length rs) are,
      length-append (before ++ row) (order_rows first groups),
      length-append before row,
    )

-- terms at one place are one
pub same-at : (rows : List Row) (k : ℕ) (terms others : List Term) → k < length rows → AreAt rows k terms
    → AreAt rows k others → terms ≡ others
same-at [] k terms others within got again = absurd (omega arith)
same-at (row ∷ rows) zero terms others within got again = got ∙ sym again
same-at (row ∷ rows) (suc k) terms others within got again =
    same-at rows k terms others (omega (arith, within)) got again

-- their coefficients are from 1
pub coefs-at : (rows : List Row) (k : ℕ) (terms : List Term) → All IsRow rows → k < length rows → AreAt rows k terms
    → All (λ t. 1 ≤ t.coef) terms
coefs-at [] k terms all within got = absurd (omega arith)
coefs-at (row ∷ rows) zero terms all within got =
    subst (λ (ts : List Term). All (λ t. 1 ≤ t.coef) ts) (sym got) (All-head IsRow row rows all).coefs
coefs-at (row ∷ rows) (suc k) terms all within got =
    coefs-at rows k terms (All-tail IsRow row rows all) (omega (arith, within)) got
