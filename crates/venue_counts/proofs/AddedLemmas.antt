-- Rows added up, each once: what the sum counts, and that a log's parts come to it.
use Rattle.std.proofs.Common.{◌≡◌, ℕ, ◌+◌, ◌*◌, ◌≤◌, Bool, false, nat_lt, cond, List, [], ◌∷◌}
use Rattle.std.proofs.Common.{map, Option, Some, refl, arith, ap, ◌∙◌}
use Rattle.std.specs.Prelude.{Result, Ok, Err}
use Rattle.std.specs.Int.{div_ceil}
use Rattle.std.specs.List.{flat_map, sum_by}
use Rattle.std.proofs.Math.Nat.{div-one, mod-one}
use Rattle.std.proofs.lemmas.Bool.{le-ltb, or_from}
use Rattle.std.proofs.lemmas.List.Elements.{All-head, All-tail}
use Rattle.std.proofs.lemmas.List.Sums.{sum_by-append, sum_by-cons}
use Rattle.rows.specs.Literals.{Literal}
use Rattle.rows.specs.Rows.{Row}
use Rattle.rows.specs.declared.lit.Term.{Term}
use Rattle.rows.specs.Sums.{Totals, count_in, divided, divided_term, is_same, is_too_wide, plus, weight_of, widest}
use Rattle.refutation.specs.Following.{add_parts, add_row, row_numbered}
use Rattle.refutation.specs.declared.step.Part.{Part}
use Rattle.refutation.specs.declared.verdict.Cause.{Cause}
use Rattle.refutation.specs.declared.verdict.Cause.TheVariants.{TooWide}
use Rattle.venue_counts.specs.CountLogs.{AreNamed}

-- some rows added to a sum
abbrev pub all_added : Totals → List Row → Totals
all_added sum [] = sum
all_added sum (row ∷ rows) = all_added (plus sum 1 row) rows

-- all their terms
abbrev pub terms_of : List Row → List Term
terms_of rows = flat_map (λ r. r.terms) rows

pub added-degree : (sum : Totals) (rows : List Row)
    → (all_added sum rows).degree ≡ sum.degree + sum_by (λ r. r.degree) rows
added-degree sum [] = omega arith
added-degree sum (row ∷ rows) =
    omega (arith, added-degree (plus sum 1 row) rows, sum_by-cons (λ (r : Row). r.degree) row rows)

pub added-weight : (sum : Totals) (rows : List Row)
    → (all_added sum rows).weight ≡ sum.weight + weight_of (terms_of rows)
added-weight sum [] = omega arith
added-weight sum (row ∷ rows) =
    omega (
      arith,
      added-weight (plus sum 1 row) rows,
      sum_by-append (λ (t : Term). t.coef) row.terms (terms_of rows),
    )

pub added-count : (sum : Totals) (rows : List Row) (l : Literal)
    → (all_added sum rows).count l ≡ sum.count l + count_in (terms_of rows) l
added-count sum [] l = omega arith
added-count sum (row ∷ rows) l =
    omega (
      arith,
      added-count (plus sum 1 row) rows l,
      sum_by-append (λ (t : Term). cond (is_same t.lit l) t.coef 0) row.terms (terms_of rows),
    )

-- ---- a log's parts

narrow : (sum : Totals) (row : Row) → sum.weight + weight_of row.terms ≤ widest → sum.degree + row.degree ≤ widest
    → is_too_wide (plus sum 1 row) ≡ false
narrow sum row weight degree =
    or_from (nat_lt widest (sum.weight + 1 * weight_of row.terms)) (nat_lt widest (sum.degree + 1 * row.degree))
    (le-ltb widest (sum.weight + 1 * weight_of row.terms) (omega (arith, weight)))
    (le-ltb widest (sum.degree + 1 * row.degree) (omega (arith, degree)))

one_added : (found : Option Row) (row : Row) (factor : ℕ) (sum : Totals) (rest : Totals → Result Totals Cause)
    → found ≡ Some row → factor ≡ 1 → is_too_wide (plus sum 1 row) ≡ false
    → add_row found factor sum rest ≡ rest (plus sum 1 row)
one_added found row factor sum rest is once fits =
    ap (λ (o : Option Row). add_row o factor sum rest) is
    ∙ ap (λ (k : ℕ). add_row (Some row) k sum rest) once
    ∙ ap (λ (b : Bool). cond b (Err TooWide) (rest (plus sum 1 row))) fits

-- parts that name rows, each once, come to their sum
pub parts-added : (rows : List Row) (parts : List Part) (named : List Row) (sum : Totals) → AreNamed rows parts named
    → sum.weight + weight_of (terms_of named) ≤ widest → sum.degree + sum_by (λ r. r.degree) named ≤ widest
    → add_parts rows parts sum ≡ Ok (all_added sum named)
parts-added rows [] [] sum are weight degree = refl
parts-added rows [] (row ∷ named) sum are weight degree = let e = are.numbers in absurd (cc)
parts-added rows (part ∷ parts) [] sum are weight degree = let e = are.numbers in absurd (cc)
parts-added rows (part ∷ parts) (row ∷ named) sum are weight degree =
    let numbers = are.numbers in
    let here : row_numbered rows part.row ≡ Some row = cc in
    let later : map (λ (p : Part). row_numbered rows p.row) parts ≡ map (λ (r : Row). Some r) named = cc in
    let weights = sum_by-append (λ (t : Term). t.coef) row.terms (terms_of named) in
    let degrees = sum_by-cons (λ (r : Row). r.degree) row named in
    one_added (row_numbered rows part.row) row part.factor sum (add_parts rows parts) here
    (All-head (λ (p : Part). p.factor ≡ 1) part parts are.once)
    (narrow sum row (omega (arith, weight, weights)) (omega (arith, degree, degrees)))
    ∙ parts-added rows parts named (plus sum 1 row)
    (record { numbers = later; once = All-tail (λ (p : Part). p.factor ≡ 1) part parts are.once })
    (omega (arith, weight, weights)) (omega (arith, degree, degrees))

-- ---- the divisor 1

ceil-one : (a : ℕ) → div_ceil a 1 ≡ a
ceil-one a = omega (arith, div-one a, mod-one a)

terms-one : (terms : List Term) → map (divided_term 1) terms ≡ terms
terms-one [] = refl
terms-one (t ∷ terms) =
    ap (λ (c : ℕ). let one : Term = record { coef = c; lit = t.lit } in one ∷ map (divided_term 1) terms)
    (ceil-one t.coef)
    ∙ ap (λ (ts : List Term). t ∷ ts) (terms-one terms)

pub divided-one : (row : Row) → divided 1 row ≡ row
divided-one row =
    ap (λ (ts : List Term). let made : Row = record { terms = ts; degree = div_ceil row.degree 1 } in made)
    (terms-one row.terms)
    ∙ ap (λ (d : ℕ). let made : Row = record { terms = row.terms; degree = d } in made) (ceil-one row.degree)
