-- Rows that are copied, added up and narrowed.
use Rattle.std.proofs.Common.{◌≡◌, ℕ, zero, suc, ◌+◌, ◌<◌, Bool, true, false, if◌then◌else◌}
use Rattle.std.proofs.Common.{List, [], ◌∷◌, ◌++◌, length, get_or, take, drop, drop-cons}
use Rattle.std.proofs.Common.{Option, Some, Result, Ok, Err, append_assoc, refl, arith, ap, subst, sym, ◌∙◌}
use Rattle.std.specs.Prelude.{IfOk, IfSome, slice_get}
use Rattle.std.specs.List.{All}
use Rattle.std.proofs.lemmas.List.{take_more}
use Rattle.std.proofs.lemmas.List.Elements.{All-nil, All-push}
use Rattle.std.proofs.lemmas.Option.{get_or_from_slice_get, slice_get-get_or}
use Rattle.rows.specs.Literals.{Literal}
use Rattle.rows.specs.Rows.{IsRow, Row}
use Rattle.rows.specs.Sums.{IsWide, Totals, cancelled, divided, is_too_wide, no_totals, plus}
use Rattle.rows.specs.declared.lit.Term.{Term}
use Rattle.propagate.specs.Trails.{KnowsVariables}
use Rattle.refutation.specs.Following.{add_parts, add_row, judged, no_demand, row_numbered, row_of}
use Rattle.refutation.specs.Steps.{Step, clause_at, divisor_at, hints_at, is_linear, kind_at, parts_at}
use Rattle.refutation.specs.Steps.Step.{Clause, Linear}
use Rattle.refutation.specs.declared.step.Part.{Part}
use Rattle.refutation.specs.declared.verdict.Cause.{Cause}
use Rattle.refutation.specs.declared.verdict.Cause.TheVariants.{TooWide}
use Rattle.refutation.specs.declared.step.StepKind.TheVariants as kinds
use Rattle.league_search.specs.Sums.{IsLonger}
use Rattle.league_search.proofs.GiveLemmas.{Give-push}

-- ---- one row

-- the row at a place, where its terms and its degree were read
pub row_read : (rows : List Row) (k : ℕ) (terms : List Term) (degree : ℕ) → k < length rows
    → IfSome (slice_get rows k) (λ row. terms ≡ row.terms) → IfSome (slice_get rows k) (λ row. degree ≡ row.degree)
    → slice_get rows k ≡ Some (record { terms = terms; degree = degree })
row_read rows k terms degree there are is =
    let at : slice_get rows k ≡ Some (get_or rows k no_demand) = slice_get-get_or rows k no_demand there in
    let terms_are : terms ≡ (get_or rows k no_demand).terms =
    subst (λ (o : Option Row). IfSome o (λ row. terms ≡ row.terms)) at are in
    let degree_is : degree ≡ (get_or rows k no_demand).degree =
    subst (λ (o : Option Row). IfSome o (λ row. degree ≡ row.degree)) at is in
    at ∙ sym (ap (λ (ts : List Term). Some (record { terms = ts; degree = degree })) terms_are
    ∙ ap (λ (d : ℕ). Some (record { terms = (get_or rows k no_demand).terms; degree = d })) degree_is)

pub row_is : (rows : List Row) (k : ℕ) (terms : List Term) (degree : ℕ) → k < length rows
    → IfSome (slice_get rows k) (λ row. terms ≡ row.terms) → IfSome (slice_get rows k) (λ row. degree ≡ row.degree)
    → get_or rows k no_demand ≡ record { terms = terms; degree = degree }
row_is rows k terms degree there are is =
    get_or_from_slice_get rows k (record { terms = terms; degree = degree }) no_demand
    (row_read rows k terms degree there are is)

pub row_kept : (rows : List Row) (k : ℕ) (terms : List Term) (degree : ℕ) → k < length rows → All IsRow rows
    → IfSome (slice_get rows k) (λ row. terms ≡ row.terms) → IfSome (slice_get rows k) (λ row. degree ≡ row.degree)
    → IsRow (record { terms = terms; degree = degree })
row_kept rows k terms degree there kept are is =
    subst (λ (row : Row). IsRow row) (row_is rows k terms degree there are is) (kept k no_demand there)

-- a row more of a copy
pub copy-more : (rows copy new : List Row) (k : ℕ) (terms : List Term) (degree : ℕ) → k < length rows
    → IfSome (slice_get rows k) (λ row. terms ≡ row.terms) → IfSome (slice_get rows k) (λ row. degree ≡ row.degree)
    → copy ≡ take k rows → new ≡ copy ++ record { terms = terms; degree = degree } ∷ []
    → new ≡ take (k + 1) rows
copy-more rows copy new k terms degree there are is was more =
    more
    ∙ ap (λ (rs : List Row). rs ++ record { terms = terms; degree = degree } ∷ []) was
    ∙ ap (λ (row : Row). take k rows ++ row ∷ []) (sym (row_is rows k terms degree there are is))
    ∙ sym (take_more rows k no_demand there)

-- ---- sums

-- the row with a number stands one place lower
pub numbered-row : (rows : List Row) (number place : ℕ) → number ≡ place + 1
    → row_numbered rows number ≡ slice_get rows place
numbered-row rows zero place is = absurd (omega (arith, is))
numbered-row rows (suc k) place is =
    let same : k ≡ place = omega (arith, is) in ap (λ (j : ℕ). slice_get rows j) same

unless_wide : (factor : ℕ) (sum : Totals) (row : Row) (others : Totals → Result Totals Cause) (wide : Bool)
    → wide ≡ false
    → (if wide then Err TooWide else others (plus sum factor row)) ≡ others (plus sum factor row)
unless_wide factor sum row others true is = absurd (cc)
unless_wide factor sum row others false is = refl

-- a row that was added to a sum
pub row_added : (rows : List Row) (number place factor : ℕ) (sum new : Totals) (terms : List Term) (degree : ℕ)
    (others : Totals → Result Totals Cause) → number ≡ place + 1 → place < length rows
    → IfSome (slice_get rows place) (λ row. terms ≡ row.terms)
    → IfSome (slice_get rows place) (λ row. degree ≡ row.degree)
    → new ≡ plus sum factor (record { terms = terms; degree = degree })
    → is_too_wide (plus sum factor (record { terms = terms; degree = degree })) ≡ false
    → add_row (row_numbered rows number) factor sum others ≡ others new
row_added rows number place factor sum new terms degree others is there are has now narrow =
    let row : Row = record { terms = terms; degree = degree } in
    ap (λ (o : Option Row). add_row o factor sum others)
    (numbered-row rows number place is ∙ row_read rows place terms degree there are has)
    ∙ unless_wide factor sum row others (is_too_wide (plus sum factor row)) narrow
    ∙ ap (λ (s : Totals). others s) (sym now)

-- the next part is added
pub parts-more : (rows : List Row) (parts : List Part) (k : ℕ) (d : Part) (start sum new : Totals) → k < length parts
    → ((others : Totals → Result Totals Cause)
    → add_row (row_numbered rows (get_or parts k d).row) (get_or parts k d).factor sum others ≡ others new)
    → add_parts rows (drop k parts) sum ≡ add_parts rows parts start
    → add_parts rows (drop (k + 1) parts) new ≡ add_parts rows parts start
parts-more rows parts k d start sum new there added was =
    let next : suc k ≡ k + 1 = omega arith in
    sym (added (add_parts rows (drop (k + 1) parts)))
    ∙ ap (λ (ps : List Part). add_parts rows ps sum)
    (sym (drop-cons parts k d there ∙ ap (λ (n : ℕ). get_or parts k d ∷ drop n parts) next))
    ∙ was

-- the row of a sum of all these
pub sum_judged : (rows : List Row) (vars divisor : ℕ) (parts : List Part) (sum : Totals) (row : Row)
    → add_parts rows parts no_totals ≡ Ok sum → row ≡ divided divisor (cancelled sum)
    → judged rows vars (Linear parts divisor) ≡ Ok row
sum_judged rows vars divisor parts sum row is has =
    ap (λ (found : Result Totals Cause). row_of divisor found) is
    ∙ ap (λ (r : Row). let found : Result Row Cause = Ok r in found) (sym has)

-- the terms of a wide row are those of a row
pub row_of_wide : (terms narrow : List Term) (row : Row) (degree : ℕ) → IsWide row → terms ≡ row.terms
    → narrow ≡ terms → IsRow (record { terms = narrow; degree = degree })
row_of_wide terms narrow row degree wide are same =
    subst (λ (ts : List Term). IsRow (record { terms = ts; degree = degree })) (sym (same ∙ are)) (record {
      coefs = wide.coefs;
      variables = λ i j d before within alike. absurd (omega (arith, wide.ascending i j d before within, alike));
    })

-- the step at a place is the sum that was read there
pub sum_read : (steps : List Step) (k divisor : ℕ) (parts : List Part) (d : Step) → k < length steps
    → kind_at steps k ≡ kinds.Linear → parts ≡ parts_at steps k → divisor ≡ divisor_at steps k
    → get_or steps k d ≡ Linear parts divisor
sum_read [] k divisor parts d there kind are is = absurd (omega (arith, there))
sum_read (Clause clause hints ∷ steps) zero divisor parts d there kind are is = absurd (cc)
sum_read (Linear named by ∷ steps) zero divisor parts d there kind are is = cc
sum_read (step ∷ steps) (suc k) divisor parts d there kind are is =
    sum_read steps k divisor parts d (omega (arith, there)) kind are is

-- one sum more
pub IsLonger-push : (rows : List Row) (vars : ℕ) (sums : List Step) (more : List Row) (parts : List Part) (divisor : ℕ)
    (row : Row) → IsLonger rows vars sums more → judged more vars (Linear parts divisor) ≡ Ok row
    → KnowsVariables vars row → IsLonger rows vars (sums ++ Linear parts divisor ∷ []) (more ++ row ∷ [])
IsLonger-push rows vars sums more parts divisor row is follows known = record {
  give = Give-push rows vars sums more (Linear parts divisor) row is.give follows;
  linear = All-push (λ step. is_linear step ≡ true) sums (Linear parts divisor) is.linear refl;
  known = All-push (KnowsVariables vars) more row is.known known;
}

pub IsLonger-none : (rows : List Row) (vars : ℕ) → All (KnowsVariables vars) rows → IsLonger rows vars [] rows
IsLonger-none rows vars known = record {
  linear = All-nil (λ step. is_linear step ≡ true);
  give = refl;
  known = known;
}

-- the sum at the next place was added
pub longer-next : (rows : List Row) (vars k divisor : ℕ) (sums : List Step) (parts : List Part) (new : List Row)
    → k < length sums → kind_at sums k ≡ kinds.Linear → parts ≡ parts_at sums k → divisor ≡ divisor_at sums k
    → IsLonger rows vars (take k sums ++ Linear parts divisor ∷ []) new
    → IsLonger rows vars (take (k + 1) sums) new
longer-next rows vars k divisor sums parts new there kind are is longer =
    subst (λ (ss : List Step). IsLonger rows vars ss new)
    (ap (λ (step : Step). take k sums ++ step ∷ [])
    (sym (sum_read sums k divisor parts (Clause [] []) there kind are is))
    ∙ sym (take_more sums k (Clause [] []) there))
    longer

-- the same where it may be that none was added
pub longer-pushed : {E : Type 0} (vars divisor : ℕ) (parts : List Part) (row : Row) (old new : List Row)
    (result : Result Bool E) → ((v : ℕ) → judged old v (Linear parts divisor) ≡ Ok row)
    → IfOk result (λ added. added ≡ true → KnowsVariables vars row)
    → IfOk result (λ added. added ≡ true → new ≡ old ++ row ∷ [])
    → IfOk result (λ added. added ≡ true → (rows : List Row) → (before : List Step) → IsLonger rows vars before old
    → IsLonger rows vars (before ++ Linear parts divisor ∷ []) new)
longer-pushed {E} vars divisor parts row old new (Ok added) follows known pushed = λ yes rows before longer.
    subst (λ (more : List Row). IsLonger rows vars (before ++ Linear parts divisor ∷ []) more) (sym (pushed yes))
    (IsLonger-push rows vars before old parts divisor row longer (follows vars) (known yes))
longer-pushed {E} vars divisor parts row old new (Err error) follows known pushed = tt

pub longer-read : {E : Type 0} (vars k divisor : ℕ) (sums : List Step) (parts : List Part) (old new : List Row)
    (result : Result Bool E) → k < length sums → kind_at sums k ≡ kinds.Linear → parts ≡ parts_at sums k
    → divisor ≡ divisor_at sums k
    → IfOk result (λ added. added ≡ true → (rows : List Row) → (before : List Step) → IsLonger rows vars before old
    → IsLonger rows vars (before ++ Linear parts divisor ∷ []) new)
    → IfOk result (λ added. added ≡ true → (rows : List Row) → IsLonger rows vars (take k sums) old
    → IsLonger rows vars (take (k + 1) sums) new)
longer-read {E} vars k divisor sums parts old new (Ok added) there kind are is longer = λ yes rows before.
    longer-next rows vars k divisor sums parts new there kind are is (longer yes rows (take k sums) before)
longer-read {E} vars k divisor sums parts old new (Err error) there kind are is longer = tt

-- ---- clauses

-- the step at a place is the clause that was read there
pub clause_read : (steps : List Step) (k : ℕ) (clause : List Literal) (hints : List ℕ) (d : Step) → k < length steps
    → is_linear (get_or steps k d) ≡ false → clause ≡ clause_at steps k → hints ≡ hints_at steps k
    → get_or steps k d ≡ Clause clause hints
clause_read [] k clause hints d there kind are is = absurd (omega (arith, there))
clause_read (Clause lits named ∷ steps) zero clause hints d there kind are is = cc
clause_read (Linear named by ∷ steps) zero clause hints d there kind are is = absurd (cc)
clause_read (step ∷ steps) (suc k) clause hints d there kind are is =
    clause_read steps k clause hints d (omega (arith, there)) kind are is

-- one clause more behind sums
pub behind-more : (sums search log new : List Step) (k : ℕ) (clause : List Literal) (hints : List ℕ) → k < length search
    → All (λ step. is_linear step ≡ false) search → clause ≡ clause_at search k → hints ≡ hints_at search k
    → log ≡ sums ++ take k search → new ≡ log ++ Clause clause hints ∷ [] → new ≡ sums ++ take (k + 1) search
behind-more sums search log new k clause hints there clauses are is was more =
    more
    ∙ ap (λ (ss : List Step). ss ++ Clause clause hints ∷ []) was
    ∙ append_assoc sums (take k search) (Clause clause hints ∷ [])
    ∙ ap (λ (ss : List Step). sums ++ ss)
    (ap (λ (step : Step). take k search ++ step ∷ [])
    (sym (clause_read search k clause hints (Clause [] []) there (clauses k (Clause [] []) there) are is))
    ∙ sym (take_more search k (Clause [] []) there))
