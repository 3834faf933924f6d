-- Rows and terms of groups, one more at a time.
use Rattle.std.proofs.Common.{◌≡◌, ℕ, ◌+◌, ◌-◌, ◌<◌, ◌≤◌, max, List, [], ◌∷◌, ◌++◌, length, map, get_or, take}
use Rattle.std.proofs.Common.{true, false, append_assoc, refl, sym, ap, subst, ◌∙◌, arith, Option, Some}
use Rattle.std.specs.Prelude.{IfSome, slice_get}
use Rattle.std.proofs.lemmas.List.{append-nil, length-append, map-append, take_all, take_more}
use Rattle.std.proofs.lemmas.List.FromFn.{map-range_with_len_more}
use Rattle.std.proofs.lemmas.List.Sums.{fold_more, sum_by-cons, sum_by_more, sum_by_more_le}
use Rattle.std.proofs.lemmas.Option.{slice_get-get_or}
use Rattle.std.specs.List.{range_with_len}
use Rattle.league.specs.Bounds.{largest}
use Rattle.rows.specs.Cardinality.{unit}
use Rattle.rows.specs.Literals.{Literal, no, yes}
use Rattle.rows.specs.Rows.{Row}
use Rattle.rows.specs.declared.lit.Term.{Term}
use Rattle.bound_rows.specs.Softening.{costs, costs_from, one_before, order_rows, units_from}
use Rattle.bound_rows.specs.Bare.{bare_groups, unit_total}
use Rattle.bound_rows.specs.declared.units.Units.{Units}

-- ---- the row at a place

abbrev pub nothing : Row
nothing = record { terms = []; degree = 0 }

pub row_at : (rows : List Row) (k : ℕ) (terms : List Term) (degree : ℕ) → k < length rows
    → IfSome (slice_get rows k) (λ row. terms ≡ row.terms) → IfSome (slice_get rows k) (λ row. degree ≡ row.degree)
    → record { terms = terms; degree = degree } ≡ get_or rows k nothing
row_at rows k terms degree there are is =
    let row : Row = get_or rows k nothing in
    let at : slice_get rows k ≡ Some (get_or rows k nothing) = slice_get-get_or rows k nothing there in
    let terms_are : terms ≡ (get_or rows k nothing).terms =
    subst (λ (o : Option Row). IfSome o (λ row. terms ≡ row.terms)) at are in
    let degree_is : degree ≡ (get_or rows k nothing).degree =
    subst (λ (o : Option Row). IfSome o (λ row. degree ≡ row.degree)) at is in
    ap (λ (ts : List Term). record { terms = ts; degree = degree }) terms_are
    ∙ ap (λ (d : ℕ). record { terms = (get_or rows k nothing).terms; degree = d }) degree_is

pub degree-more : (rows : List Row) (k most degree next : ℕ) → k < length rows
    → most ≡ largest (λ row. row.degree) (take k rows) → IfSome (slice_get rows k) (λ row. degree ≡ row.degree)
    → next ≡ max most degree → next ≡ largest (λ row. row.degree) (take (k + 1) rows)
degree-more rows k most degree next there so_far is larger =
    let at : slice_get rows k ≡ Some (get_or rows k nothing) = slice_get-get_or rows k nothing there in
    let degree_is : degree ≡ (get_or rows k nothing).degree =
    subst (λ (o : Option Row). IfSome o (λ row. degree ≡ row.degree)) at is in
    larger
    ∙ ap (λ (d : ℕ). max most d) degree_is
    ∙ ap (λ (d : ℕ). max d (get_or rows k nothing).degree) so_far
    ∙ sym (fold_more (λ (a : ℕ) (row : Row). max a row.degree) 0 rows k nothing there)

pub degree-all : (rows : List Row) (k most : ℕ) → length rows ≤ k → most ≡ largest (λ row. row.degree) (take k rows)
    → most ≡ largest (λ row. row.degree) rows
degree-all rows k most all so_far = so_far ∙ ap (λ (rs : List Row). largest (λ row. row.degree) rs) (take_all k rows all)

-- ---- units

pub units-more : (first k : ℕ) (start old new : List Term) (lit : Literal)
    → old ≡ start ++ map unit (units_from first k) → lit ≡ record { var = first + k; positive = true }
    → new ≡ old ++ record { coef = 1; lit = lit } ∷ [] → new ≡ start ++ map unit (units_from first (k + 1))
units-more first k start old new lit so_far is put =
    let before : List Term = map unit (units_from first k) in
    let more : map unit (units_from first (k + 1)) ≡ before ++ unit (yes (first + k)) ∷ [] =
    ap (map unit) (map-range_with_len_more yes first k (first + k) refl)
    ∙ map-append unit (units_from first k) (yes (first + k) ∷ []) in
    put
    ∙ ap (λ (ts : List Term). ts ++ record { coef = 1; lit = lit } ∷ []) so_far
    ∙ append_assoc start before (record { coef = 1; lit = lit } ∷ [])
    ∙ ap (λ (l : Literal). start ++ (before ++ record { coef = 1; lit = l } ∷ [])) is
    ∙ ap (λ (ts : List Term). start ++ ts) (sym more)

pub costs-more : (penalty first k : ℕ) (start old new : List Term) (lit : Literal)
    → old ≡ start ++ costs_from penalty first k → lit ≡ record { var = first + k; positive = false }
    → new ≡ old ++ record { coef = penalty; lit = lit } ∷ [] → new ≡ start ++ costs_from penalty first (k + 1)
costs-more penalty first k start old new lit so_far is put =
    let before : List Term = costs_from penalty first k in
    let cost : ℕ → Term = λ v. record { coef = penalty; lit = no v } in
    put
    ∙ ap (λ (ts : List Term). ts ++ record { coef = penalty; lit = lit } ∷ []) so_far
    ∙ append_assoc start before (record { coef = penalty; lit = lit } ∷ [])
    ∙ ap (λ (l : Literal). start ++ (before ++ record { coef = penalty; lit = l } ∷ [])) is
    ∙ ap (λ (ts : List Term). start ++ ts) (sym (map-range_with_len_more cost first k (first + k) refl))

pub orders-more : (first k : ℕ) (start old new : List Row) → old ≡ start ++ map one_before (range_with_len first k)
    → new ≡ old ++ one_before (first + k) ∷ [] → new ≡ start ++ map one_before (range_with_len first (k + 1))
orders-more first k start old new so_far put =
    let before : List Row = map one_before (range_with_len first k) in
    put
    ∙ ap (λ (rs : List Row). rs ++ one_before (first + k) ∷ []) so_far
    ∙ append_assoc start before (one_before (first + k) ∷ [])
    ∙ ap (λ (rs : List Row). start ++ rs) (sym (map-range_with_len_more one_before first k (first + k) refl))

-- a list with one more element
pub length-put : {X : Type 0} (old new : List X) (x : X) → new ≡ old ++ x ∷ [] → length new ≡ length old + 1
length-put old new x put = omega (arith, ap (λ xs. length xs) put, length-append old (x ∷ []))

-- ---- one group more

-- what a place past the groups stands for
abbrev pub no_units : Units
no_units = record { penalty = 0; units = 0 }

costs-append : (first : ℕ) (groups : List Units) (u : Units)
    → costs first (bare_groups (groups ++ u ∷ []))
    ≡ costs first (bare_groups groups) ++ costs_from u.penalty (first + unit_total groups) u.units
costs-append first [] u =
    let place : first ≡ first + unit_total [] = omega arith in
    append-nil (costs_from u.penalty first u.units) ∙ ap (λ (v : ℕ). costs_from u.penalty v u.units) place
costs-append first (g ∷ groups) u =
    let here : List Term = costs_from g.penalty first g.units in
    let place : first + g.units + unit_total groups ≡ first + unit_total (g ∷ groups) =
    omega (arith, sum_by-cons (λ (u : Units). u.units) g groups) in
    ap (λ (ts : List Term). here ++ ts) (costs-append (first + g.units) groups u)
    ∙ sym (append_assoc here (costs (first + g.units) (bare_groups groups))
    (costs_from u.penalty (first + g.units + unit_total groups) u.units))
    ∙ ap (λ (v : ℕ). here ++ costs (first + g.units) (bare_groups groups) ++ costs_from u.penalty v u.units) place

order-append : (first : ℕ) (groups : List Units) (u : Units)
    → order_rows first (bare_groups (groups ++ u ∷ []))
    ≡ order_rows first (bare_groups groups) ++ map one_before (range_with_len (first + unit_total groups) (u.units - 1))
order-append first [] u =
    let place : first ≡ first + unit_total [] = omega arith in
    append-nil (map one_before (range_with_len first (u.units - 1)))
    ∙ ap (λ (v : ℕ). map one_before (range_with_len v (u.units - 1))) place
order-append first (g ∷ groups) u =
    let here : List Row = map one_before (range_with_len first (g.units - 1)) in
    let place : first + g.units + unit_total groups ≡ first + unit_total (g ∷ groups) =
    omega (arith, sum_by-cons (λ (u : Units). u.units) g groups) in
    ap (λ (rs : List Row). here ++ rs) (order-append (first + g.units) groups u)
    ∙ sym (append_assoc here (order_rows (first + g.units) (bare_groups groups))
    (map one_before (range_with_len (first + g.units + unit_total groups) (u.units - 1))))
    ∙ ap (λ (v : ℕ). here ++ order_rows (first + g.units) (bare_groups groups)
    ++ map one_before (range_with_len v (u.units - 1))) place

module _ (groups : List Units) (i : ℕ) (d : Units) (within : i < length groups) where
  -- how many units come before the next group
  pub place-more : (first next after : ℕ) → next ≡ first + unit_total (take i groups)
      → after ≡ next + (get_or groups i d).units → after ≡ first + unit_total (take (i + 1) groups)
  place-more first next after place is =
      omega (arith, place, is, sum_by_more (λ (u : Units). u.units) groups i d within)

  pub place-le : (first next : ℕ) → next ≡ first + unit_total (take i groups)
      → next + (get_or groups i d).units ≤ first + unit_total groups
  place-le first next place = omega (arith, place, sum_by_more_le (λ (u : Units). u.units) groups i d within)

  pub costs-next : (first next : ℕ) (old new : List Term) → old ≡ costs first (bare_groups (take i groups))
      → next ≡ first + unit_total (take i groups)
      → new ≡ old ++ costs_from (get_or groups i d).penalty next (get_or groups i d).units
      → new ≡ costs first (bare_groups (take (i + 1) groups))
  costs-next first next old new so_far place put =
      let u : Units = get_or groups i d in
      put
      ∙ ap (λ (ts : List Term). ts ++ costs_from u.penalty next u.units) so_far
      ∙ ap (λ (v : ℕ). costs first (bare_groups (take i groups)) ++ costs_from u.penalty v u.units) place
      ∙ sym (costs-append first (take i groups) u)
      ∙ ap (λ (gs : List Units). costs first (bare_groups gs)) (sym (take_more groups i d within))

  pub order-next : (first next : ℕ) (start old new : List Row)
      → old ≡ start ++ order_rows first (bare_groups (take i groups)) → next ≡ first + unit_total (take i groups)
      → new ≡ old ++ map one_before (range_with_len next ((get_or groups i d).units - 1))
      → new ≡ start ++ order_rows first (bare_groups (take (i + 1) groups))
  order-next first next start old new so_far place put =
      let u : Units = get_or groups i d in
      let before : List Row = order_rows first (bare_groups (take i groups)) in
      put
      ∙ ap (λ (rs : List Row). rs ++ map one_before (range_with_len next (u.units - 1))) so_far
      ∙ append_assoc start before (map one_before (range_with_len next (u.units - 1)))
      ∙ ap (λ (v : ℕ). start ++ (before ++ map one_before (range_with_len v (u.units - 1)))) place
      ∙ ap (λ (rs : List Row). start ++ rs) (sym (order-append first (take i groups) u))
      ∙ ap (λ (gs : List Units). start ++ order_rows first (bare_groups gs)) (sym (take_more groups i d within))

-- ---- softened rows

pub softened-next : (f : Row → Row) (group : List Row) (k : ℕ) (terms : List Term) (degree : ℕ) (start old new : List Row)
    → k < length group → record { terms = terms; degree = degree } ≡ get_or group k nothing
    → old ≡ start ++ map f (take k group) → new ≡ old ++ f (record { terms = terms; degree = degree }) ∷ []
    → new ≡ start ++ map f (take (k + 1) group)
softened-next f group k terms degree start old new within is so_far put =
    let before : List Row = map f (take k group) in
    put
    ∙ ap (λ (rs : List Row). rs ++ f (record { terms = terms; degree = degree }) ∷ []) so_far
    ∙ append_assoc start before (f (record { terms = terms; degree = degree }) ∷ [])
    ∙ ap (λ (row : Row). start ++ (before ++ f row ∷ [])) is
    ∙ ap (λ (rs : List Row). start ++ rs) (sym (map-append f (take k group) (get_or group k nothing ∷ [])))
    ∙ ap (λ (rs : List Row). start ++ map f rs) (sym (take_more group k nothing within))
