-- Pattern rows, picked one after another.
use Rattle.std.proofs.Common.{◌≡◌, ℕ, ◌+◌, ◌-◌, ◌<◌, ◌≤◌, nat_lt, Bool, true, false, cond, add-one}
use Rattle.std.proofs.Common.{List, [], ◌∷◌, ◌++◌, length, map, get_or, take, Option, Some}
use Rattle.std.proofs.Common.{refl, arith, ap, sym, subst, ◌∙◌, inl, inr}
use Rattle.std.specs.Prelude.{IfSome, slice_get, slice_index}
use Rattle.std.specs.List.{All, filter, list_all}
use Rattle.std.proofs.lemmas.List.{append-nil, get_or-map, get_or_append_left, get_or_push, length-map, length_push}
use Rattle.std.proofs.lemmas.List.{map-append, take_all}
use Rattle.std.proofs.lemmas.List.Elements.{All-filter, All-push, filter_more}
use Rattle.std.proofs.lemmas.Option.{get_or_from_slice_get, slice_get-get_or, slice_get_within}
use Rattle.league.specs.Instance.{Instance}
use Rattle.rows.specs.Rows.{IsRow, Row}
use Rattle.rows.specs.declared.lit.Term.{Term}
use Rattle.propagate.specs.Trails.{KnowsVariables}
use Rattle.refutation.specs.Following.{no_demand, row_numbered}
use Rattle.encoding.specs.Encoding.{rows_of}
use Rattle.encoding.specs.Known.{AreKnown, IsKnown}
use Rattle.encoding.specs.Variables.{var_count}
use Rattle.league_search.specs.PatternRows.{is_pattern_row}
use Rattle.league_search.specs.Raised.{IsFromOne, IsPicked, raised_row, raised_term}
use Rattle.league_search.proofs.NumberLemmas.{slice_get-push}

-- ---- one row

-- the terms of a row are one where they are raised
row_lowered : (games degree : ℕ) (low terms : List Term) → map (raised_term games) low ≡ terms
    → IsRow (record { terms = terms; degree = degree }) → IsRow (record { terms = low; degree = degree })
row_lowered games degree low terms raised is =
    let high : IsRow (record { terms = map (raised_term games) low; degree = degree }) =
    subst (λ (ts : List Term). IsRow (record { terms = ts; degree = degree })) (sym raised) is in
    let at = λ (k : ℕ) (d : Term) (within : k < length low).
    get_or-map (raised_term games) low k d (raised_term games d) within in
    record {
      coefs = λ k d within.
          subst (λ (t : Term). 1 ≤ t.coef) (at k d within)
          (high.coefs k (raised_term games d) (omega (arith, within, length-map low (raised_term games))));
      variables = λ i j d before within same.
          high.variables i j (raised_term games d) before (omega (arith, within, length-map low (raised_term games)))
          (ap (λ (t : Term). t.lit.var) (at i d (omega (arith, before, within)))
          ∙ ap (λ (v : ℕ). v + games) same
          ∙ sym (ap (λ (t : Term). t.lit.var) (at j d within)));
    }

-- the row at a place, where its terms and its degree were read
pub row_at : (rows : List Row) (k : ℕ) (terms : List Term) (degree : ℕ) → k < length rows
    → IfSome (slice_get rows k) (λ row. terms ≡ row.terms) → IfSome (slice_get rows k) (λ row. degree ≡ row.degree)
    → slice_get rows k ≡ Some (record { terms = terms; degree = degree })
row_at rows k terms degree there are is =
    let row : Row = get_or rows k no_demand in
    let at : slice_get rows k ≡ Some (get_or rows k no_demand) = slice_get-get_or rows k no_demand there in
    let terms_are : terms ≡ (get_or rows k no_demand).terms =
    subst (λ (o : Option Row). IfSome o (λ row. terms ≡ row.terms)) at are in
    let degree_is : degree ≡ (get_or rows k no_demand).degree =
    subst (λ (o : Option Row). IfSome o (λ row. degree ≡ row.degree)) at is in
    at ∙ sym (ap (λ (ts : List Term). Some (record { terms = ts; degree = degree })) terms_are
    ∙ ap (λ (d : ℕ). Some (record { terms = (get_or rows k no_demand).terms; degree = d })) degree_is)

pub lowered_row : (games : ℕ) (rows : List Row) (k : ℕ) (low terms : List Term) (degree : ℕ) → k < length rows
    → All IsRow rows → slice_get rows k ≡ Some (record { terms = terms; degree = degree })
    → map (raised_term games) low ≡ terms → IsRow (record { terms = low; degree = degree })
lowered_row games rows k low terms degree there are at raised =
    row_lowered games degree low terms raised
    (subst (λ (row : Row). IsRow row) (get_or_from_slice_get rows k (record { terms = terms; degree = degree })
    no_demand at) (are k no_demand there))

-- ---- several

-- no row yet
pub picked_none : (games : ℕ) (rows low : List Row) (numbers : List ℕ) → low ≡ [] → numbers ≡ []
    → IsPicked games rows 0 low numbers
picked_none games rows low numbers none no_numbers =
    subst (λ (rs : List Row). IsPicked games rows 0 rs numbers) (sym none)
    (subst (λ (ns : List ℕ). IsPicked games rows 0 [] ns) (sym no_numbers) (record {
      raised = refl;
      from_one = λ k d within. absurd (omega (arith, within));
      few = omega arith;
      lengths = refl;
      named = λ k row there. absurd (cc);
    }))

more_rows : (games : ℕ) (rows : List Row) (k : ℕ) (row : Row) (b : Bool) → slice_get rows k ≡ Some row
    → is_pattern_row games row ≡ b
    → filter (is_pattern_row games) (take (k + 1) rows)
    ≡ filter (is_pattern_row games) (take k rows) ++ cond b (row ∷ []) []
more_rows games rows k row b at is =
    let same : get_or rows k no_demand ≡ row = get_or_from_slice_get rows k row no_demand at in
    filter_more (is_pattern_row games) rows k no_demand (slice_get_within rows k row at)
    ∙ ap (λ (r : Row). filter (is_pattern_row games) (take k rows) ++ cond (is_pattern_row games r) (r ∷ []) []) same
    ∙ ap (λ (c : Bool). filter (is_pattern_row games) (take k rows) ++ cond c (row ∷ []) []) is

-- the next row speaks of a game
pub picked_same : (games : ℕ) (rows low : List Row) (numbers : List ℕ) (k : ℕ) (row : Row)
    → IsPicked games rows k low numbers → slice_get rows k ≡ Some row → is_pattern_row games row ≡ false
    → IsPicked games rows (k + 1) low numbers
picked_same games rows low numbers k row picked at is = record {
  raised = picked.raised ∙ sym (append-nil (filter (is_pattern_row games) (take k rows)))
      ∙ sym (more_rows games rows k row false at is);
  from_one = picked.from_one;
  few = omega (arith, picked.few);
  lengths = picked.lengths;
  named = picked.named;
}

pub passed_over : (games : ℕ) (rows low : List Row) (numbers : List ℕ) (k : ℕ) (terms : List Term) (b : Bool)
    → k < length rows → IsPicked games rows k low numbers → IfSome (slice_get rows k) (λ row. terms ≡ row.terms)
    → b ≡ list_all (λ t. nat_lt games t.lit.var) terms → b ≡ false → IsPicked games rows (k + 1) low numbers
passed_over games rows low numbers k terms b there picked are tested fails =
    let at : slice_get rows k ≡ Some (get_or rows k no_demand) = slice_get-get_or rows k no_demand there in
    let terms_are : terms ≡ (get_or rows k no_demand).terms =
    subst (λ (o : Option Row). IfSome o (λ row. terms ≡ row.terms)) at are in
    picked_same games rows low numbers k (get_or rows k no_demand) picked at
    (sym (tested ∙ ap (λ (ts : List Term). list_all (λ t. nat_lt games t.lit.var) ts) terms_are) ∙ fails)

-- the next row speaks of no game
pub picked_more : (games : ℕ) (rows low low' : List Row) (numbers numbers' : List ℕ) (k : ℕ) (terms : List Term)
    (row : Row) → IsPicked games rows k low numbers → slice_get rows k ≡ Some row → is_pattern_row games row ≡ true
    → map (raised_term games) terms ≡ row.terms → All (λ t. 1 ≤ t.lit.var) terms
    → low' ≡ low ++ record { terms = terms; degree = row.degree } ∷ [] → numbers' ≡ numbers ++ (k + 1) ∷ []
    → IsPicked games rows (k + 1) low' numbers'
picked_more games rows low low' numbers numbers' k terms row picked at is raised from_one more more_numbers =
    subst (λ (rs : List Row). IsPicked games rows (k + 1) rs numbers') (sym more)
    (subst (λ (ns : List ℕ). IsPicked games rows (k + 1) (low ++ record { terms = terms; degree = row.degree } ∷ []) ns)
    (sym more_numbers) (record {
      raised = map-append (raised_row games) low (record { terms = terms; degree = row.degree } ∷ [])
          ∙ ap (λ (rs : List Row). rs ++ raised_row games (record { terms = terms; degree = row.degree }) ∷ [])
          picked.raised
          ∙ ap (λ (r : Row). filter (is_pattern_row games) (take k rows) ++ r ∷ []) raised_is
          ∙ sym (more_rows games rows k row true at is);
      from_one = All-push IsFromOne low (record { terms = terms; degree = row.degree }) picked.from_one from_one;
      few = omega (arith, picked.few, length_push low (record { terms = terms; degree = row.degree }));
      lengths = omega (
        arith,
        picked.lengths,
        length_push low (record { terms = terms; degree = row.degree }),
        length_push numbers (k + 1),
      );
      named = names;
    })) where
      raised_is : raised_row games (record { terms = terms; degree = row.degree }) ≡ row
      raised_is = ap (λ (ts : List Term). record { terms = ts; degree = row.degree }) raised

      here : row_numbered rows (k + 1) ≡ Some row
      here = rw add-one at

      names : (j : ℕ) (found : Row)
          → slice_get (low ++ record { terms = terms; degree = row.degree } ∷ []) j ≡ Some found
          → row_numbered rows (slice_index (numbers ++ (k + 1) ∷ []) j) ≡ Some (raised_row games found)
      names j found there =
          elim (slice_get-push low (record { terms = terms; degree = row.degree }) j found there) [
            | inl old ↦
                let within : j < length numbers = omega (arith, picked.lengths, slice_get_within low j found old) in
                ap (λ (n : ℕ). row_numbered rows n) (get_or_append_left numbers ((k + 1) ∷ []) 0 j within)
                ∙ picked.named j found old
            | inr new ↦
                let last : length numbers ≡ j = omega (arith, picked.lengths, new.0) in
                ap (λ (n : ℕ). row_numbered rows n) (get_or_push numbers (k + 1) 0 j last)
                ∙ here
                ∙ sym (ap (λ (r : Row). Some r) raised_is)
                ∙ ap (λ (r : Row). Some (raised_row games r)) new.1
          ]

-- all rows were seen
pub picked_all : (games : ℕ) (rows low : List Row) (numbers : List ℕ) (k : ℕ) → IsPicked games rows k low numbers
    → length rows ≤ k → k ≤ length rows → IsPicked games rows (length rows) low numbers
picked_all games rows low numbers k picked all most =
    let same : k ≡ length rows = omega (arith, all, most) in
    subst (λ (n : ℕ). IsPicked games rows n low numbers) same picked

-- ---- what the lowered rows know

pub picked_raised : (games : ℕ) (rows low : List Row) (numbers : List ℕ)
    → IsPicked games rows (length rows) low numbers
    → map (raised_row games) low ≡ filter (is_pattern_row games) rows
picked_raised games rows low numbers picked =
    picked.raised ∙ ap (λ (rs : List Row). filter (is_pattern_row games) rs) (take_all (length rows) rows (omega arith))

lower_known : (v x vars : ℕ) → v + x ≤ vars → v ≤ vars - x
lower_known v x vars known = omega (arith, known)

-- the variables of a row, lowered
row_known : (games vars : ℕ) (row : Row) → IsKnown vars (raised_row games row) → KnowsVariables (vars - games) row
row_known games vars row known = λ k d within.
    lower_known (get_or row.terms k d).lit.var games vars
    (subst (λ (t : Term). t.lit.var ≤ vars)
    (get_or-map (raised_term games) row.terms k d (raised_term games d) within)
    (known k (raised_term games d) (omega (arith, within, length-map row.terms (raised_term games)))).1)

pub picked_known : (games vars : ℕ) (rows low : List Row) (numbers : List ℕ)
    → IsPicked games rows (length rows) low numbers → AreKnown vars rows
    → All (KnowsVariables (vars - games)) low
picked_known games vars rows low numbers picked known =
    let high : All (IsKnown vars) (map (raised_row games) low) =
    subst (λ (rs : List Row). All (IsKnown vars) rs) (sym (picked_raised games rows low numbers picked))
    (All-filter (is_pattern_row games) (IsKnown vars) rows known) in
    λ k d within.
    row_known games vars (get_or low k d)
    (subst (λ (row : Row). IsKnown vars row) (get_or-map (raised_row games) low k d (raised_row games d) within)
    (high k (raised_row games d) (omega (arith, within, length-map low (raised_row games)))))

-- the variables of the rows, lowered, with the number of variables that was read
pub known_here : (league : Instance) (games vars : ℕ) (rows low : List Row) (numbers : List ℕ)
    → rows ≡ rows_of league → vars ≡ var_count league → IsPicked games rows (length rows) low numbers
    → AreKnown (var_count league) (rows_of league) → All (KnowsVariables (vars - games)) low
known_here league games vars rows low numbers same are picked known =
    picked_known games vars rows low numbers picked
    (subst (λ (v : ℕ). AreKnown v rows) (sym are) (subst (λ (rs : List Row). AreKnown (var_count league) rs) (sym same)
    known))
