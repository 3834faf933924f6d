-- Rows that values meet or miss.
use Rattle.std.proofs.Common.{◌≡◌, ℕ, zero, suc, ◌+◌, ◌-◌, ◌<◌, ◌==◌, Bool, true, false, List, [], ◌∷◌, length, get_or}
use Rattle.std.proofs.Common.{take, drop, Some, None, refl, ap, sym, subst, ◌∙◌, arith, add-one}
use Rattle.std.specs.Prelude.{IfSome, if◌then◌else◌, nat_le, slice_get}
use Rattle.std.proofs.lemmas.Bool.Decides.{nat_tests}
use Rattle.std.proofs.lemmas.List.Elements.{All-cons, All-get_or, All-nil}
use Rattle.std.proofs.lemmas.List.Sums.{sum_by_more}
use Rattle.std.proofs.Math.Seq.{drop-cons}
use Rattle.rows.specs.Rows.{Row, Satisfies, SatisfiesAll, is_true, weight}
use Rattle.rows.specs.Tests.{satisfied}
use Rattle.rows.specs.declared.lit.Term.{Term}
use Rattle.encoding.specs.Known.{AreKnown, IsKnown}
use Rattle.command_rows.specs.Valued.{missed_from}

abbrev pub Values : Type 0
Values = ℕ → Bool

-- what a term counts
abbrev pub counted : Values → Term → ℕ
counted values t = if is_true values t.lit then t.coef else 0

-- a term more
pub left-more : (values : Values) (terms : List Term) (k : ℕ) (t : Term) (degree left next : ℕ) → k < length terms
    → t ≡ get_or terms k t → left ≡ degree - weight values (take k terms) → next ≡ left - counted values t
    → next ≡ degree - weight values (take (k + 1) terms)
left-more values terms k t degree left next there is so_far now =
    let more : weight values (take (k + 1) terms) ≡ weight values (take k terms) + counted values (get_or terms k t) =
    sum_by_more (counted values) terms k t there in
    let same : counted values (get_or terms k t) ≡ counted values t = ap (counted values) (sym is) in
    omega (arith, more, same, so_far, now)

-- nothing is left of the degree exactly where the row is met
pub none-left : (left degree sum : ℕ) → left ≡ degree - sum → (left == 0) ≡ nat_le degree sum
none-left left degree sum is = grind (arith, nat_tests)

-- the row at a place, from its terms and its degree
pub row-got : (rows : List Row) (k : ℕ) (terms : List Term) (degree : ℕ) → k < length rows
    → IfSome (slice_get rows k) (λ row. terms ≡ row.terms) → IfSome (slice_get rows k) (λ row. degree ≡ row.degree)
    → let read : Row = record { terms = terms; degree = degree } in read ≡ get_or rows k read
row-got [] k terms degree there first second = absurd (omega arith)
row-got (row ∷ rows) zero terms degree there first second =
    ap (λ (t : List Term). let read : Row = record { terms = t; degree = degree } in read) first
    ∙ ap (λ (d : ℕ). let read : Row = record { terms = row.terms; degree = d } in read) second
row-got (row ∷ rows) (suc k) terms degree there first second = row-got rows k terms degree (omega arith) first second

pub known-row : (vars : ℕ) (rows : List Row) (k : ℕ) (row : Row) → k < length rows → row ≡ get_or rows k row
    → AreKnown vars rows → IsKnown vars row
known-row vars rows k row there is known =
    subst (IsKnown vars) (sym is) (All-get_or (IsKnown vars) rows k row there known)

-- a row that isn't missed, and the others
pub missed-next : (number : ℕ) (rows : List Row) (values : Values) (k : ℕ) (row : Row) → k < length rows
    → row ≡ get_or rows k row → satisfied values row ≡ true
    → missed_from number (drop k rows) values ≡ missed_from (number + 1) (drop (k + 1) rows) values
missed-next number rows values k row there is met =
    ap (λ (rs : List Row). missed_from number rs values)
    (drop-cons rows k row there ∙ ap (λ (r : Row). r ∷ drop (suc k) rows) (sym is))
    ∙ ap (λ (b : Bool). if b then missed_from (number + 1) (drop (suc k) rows) values else Some number) met
    ∙ ap (λ (j : ℕ). missed_from (number + 1) (drop j rows) values) (sym (add-one k))

-- a row that is missed
pub missed-here : (number : ℕ) (rows : List Row) (values : Values) (k : ℕ) (row : Row) → k < length rows
    → row ≡ get_or rows k row → satisfied values row ≡ false
    → missed_from number (drop k rows) values ≡ Some number
missed-here number rows values k row there is fails =
    ap (λ (rs : List Row). missed_from number rs values)
    (drop-cons rows k row there ∙ ap (λ (r : Row). r ∷ drop (suc k) rows) (sym is))
    ∙ ap (λ (b : Bool). if b then missed_from (number + 1) (drop (suc k) rows) values else Some number) fails

met-from_test : (values : Values) (row : Row) → satisfied values row ≡ true → Satisfies values row
met-from_test values row is = grind (arith, nat_tests)

met-cases : (number : ℕ) (row : Row) (rows : List Row) (values : Values) (b : Bool) → satisfied values row ≡ b
    → (if b then missed_from (number + 1) rows values else Some number) ≡ None
    → (satisfied values row ≡ true) × (missed_from (number + 1) rows values ≡ None)
met-cases number row rows values true is none = (is, none)
met-cases number row rows values false is none = cc

-- where none is missed, all are met
pub all-met : (number : ℕ) (rows : List Row) (values : Values) → missed_from number rows values ≡ None
    → SatisfiesAll values rows
all-met number [] values none = All-nil (Satisfies values)
all-met number (row ∷ rows) values none =
    let parts = met-cases number row rows values (satisfied values row) refl none in
    All-cons (Satisfies values) row rows (met-from_test values row parts.0) (all-met (number + 1) rows values parts.1)
