-- How many terms a group has, by the number of literals of its rows.
use Rattle.std.proofs.Common.{◌≡◌, ℕ, ◌+◌, ◌-◌, max, List, [], ◌∷◌, length, map, refl, ap, sym, ◌∙◌}
use Rattle.std.proofs.Common.{arith, inl, inr}
use Rattle.std.proofs.lemmas.Bool.{cases_lt, le-ltb, lt-ltb}
use Rattle.std.proofs.lemmas.List.{length-map}
use Rattle.std.specs.List.{filter, flat_map, fold, sum_by}
use Rattle.league.specs.Bounds.{largest}
use Rattle.league.specs.declared.class.Class.{Class}
use Rattle.league.proofs.SumLemmas.{sum_by-filter, sum_by-flat_map, sum_by-same}
use Rattle.rows.specs.Cardinality.{at_most, between, unit}
use Rattle.rows.specs.Literals.{Literal, negate}
use Rattle.rows.specs.Rows.{Row}
use Rattle.encoding.specs.Encoding.{demands}
use Rattle.encoding.specs.Keys.{Bounded, key_of, places_of, rows_of_subject}
use Rattle.encoding.specs.declared.subjects.Subject.{Subject}
use Rattle.encoding.proofs.KeyRowLemmas.{filter-flat_map}
use Rattle.bound_rows.specs.Sizes.{between_size, between_units, bounds_size, group_size, key_rows_size, key_units}
use Rattle.bound_rows.specs.Sizes.{row_size, shared_size, shared_units, units_size}

-- a group of rows, of which only those are listed that demand something
abbrev pub listed_size : List Row → ℕ
listed_size rows = group_size (largest (λ row. row.degree) (filter demands rows)) (filter demands rows)

-- the largest degree, where it is above a number
abbrev largest_from : ℕ → List Row → ℕ
largest_from a rows = fold (λ b row. max b row.degree) a rows

-- the others have no larger degree
largest-listed : (a : ℕ) (rows : List Row) → largest_from a (filter demands rows) ≡ largest_from a rows
largest-listed a [] = refl
largest-listed a (r ∷ rows) =
    elim (cases_lt 0 r.degree) [
      | inl positive ↦ rw (lt-ltb 0 r.degree positive) (largest-listed (max a r.degree) rows)
      | inr none ↦
          let same : a ≡ max a r.degree = omega (arith, none) in
          rw (le-ltb 0 r.degree none)
          (largest-listed a rows ∙ ap (λ (b : ℕ). largest_from b rows) same)
    ]

pub listed_size-rows : (rows : List Row)
    → listed_size rows
    ≡ sum_by (λ r. row_size (largest (λ row. row.degree) rows) r.degree (length r.terms)) rows
    + units_size (largest (λ row. row.degree) rows)
listed_size-rows rows =
    let units : ℕ = largest (λ row. row.degree) rows in
    ap (λ (u : ℕ). group_size u (filter demands rows)) (largest-listed 0 rows)
    ∙ omega (arith, sum_by-filter (λ (r : Row). length r.terms + units) demands rows)

-- ---- a group that bounds some literals

length-negated : (literals : List Literal) → length (map unit (map negate literals)) ≡ length literals
length-negated literals = length-map (map negate literals) unit ∙ length-map literals negate

-- the two rows, in a group with so many units
rows_size-between : (units low high : ℕ) (literals : List Literal)
    → sum_by (λ r. row_size units r.degree (length r.terms)) (between low high literals)
    ≡ bounds_size units low high (length literals)
rows_size-between units low high literals =
    omega (
      arith,
      ap (row_size units low) (length-map literals unit),
      ap (row_size units (length literals - high)) (length-negated literals),
    )

pub listed_size-between : (low high : ℕ) (literals : List Literal)
    → listed_size (between low high literals) ≡ between_size low high (length literals)
listed_size-between low high literals =
    let units : ℕ = between_units low high (length literals) in
    let same : max (max 0 low) (length literals - high) ≡ units = omega arith in
    let size : ℕ → ℕ = λ u.
    sum_by (λ r. row_size u r.degree (length r.terms)) (between low high literals) + units_size u in
    listed_size-rows (between low high literals)
    ∙ ap size same
    ∙ ap (λ (k : ℕ). k + units_size units) (rows_size-between units low high literals)

-- from above alone
pub listed_size-most : (high : ℕ) (literals : List Literal)
    → listed_size (at_most high literals ∷ []) ≡ between_size 0 high (length literals)
listed_size-most high literals =
    let beyond : ℕ = length literals - high in
    let row : row_size (max 0 beyond) beyond (length (map unit (map negate literals)))
    ≡ row_size (max 0 beyond) beyond (length literals) =
    ap (row_size (max 0 beyond) beyond) (length-negated literals) in
    omega (arith, listed_size-rows (at_most high literals ∷ []), row)

-- ---- the one group of all keys of a subject

-- its units: as many as any key wants
largest-keys : (key : ℕ → Bounded) (a : ℕ) (places : List ℕ)
    → largest_from a (flat_map (λ place. between (key place).low (key place).high (key place).literals) places)
    ≡ fold (λ b place. max b (key_units (key place))) a places
largest-keys key a [] = refl
largest-keys key a (p ∷ places) =
    let rows : ℕ → List Row = λ place. between (key place).low (key place).high (key place).literals in
    let low : ℕ = (key p).low in
    let beyond : ℕ = length (key p).literals - (key p).high in
    let same : max (max a low) beyond ≡ max a (max low beyond) = omega arith in
    ap (λ (b : ℕ). largest_from b (flat_map rows places)) same ∙ largest-keys key (max a (key_units (key p))) places

pub group_size-shared : (n : ℕ) (class : Class) (subject : Subject)
    → group_size (largest (λ row. row.degree) (rows_of_subject n class subject)) (rows_of_subject n class subject)
    ≡ shared_size n class subject
group_size-shared n class subject =
    let key : ℕ → Bounded = λ place. key_of n class subject place in
    let rows : ℕ → List Row = λ place. between (key place).low (key place).high (key place).literals in
    let places : List ℕ = places_of n class in
    let size : ℕ → Row → ℕ = λ u r. row_size u r.degree (length r.terms) in
    let units : ℕ = shared_units n class subject in
    ap (λ (rs : List Row). group_size (largest (λ row. row.degree) rs) rs) (sym (filter-flat_map demands rows places))
    ∙ listed_size-rows (flat_map rows places)
    ∙ ap (λ (u : ℕ). sum_by (size u) (flat_map rows places) + units_size u) (largest-keys key 0 places)
    ∙ ap (λ (k : ℕ). k + units_size units)
    (sum_by-flat_map (size units) rows places
    ∙ sum_by-same (λ place. sum_by (size units) (rows place)) (λ place. key_rows_size units (key place))
    (λ place. rows_size-between units (key place).low (key place).high (key place).literals) places)
