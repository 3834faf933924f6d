-- The row that is looked for at some places, by its literals.
use Rattle.std.proofs.Common.{◌≡◌, ℕ, ◌+◌, ◌-◌, ◌<◌, ◌≤◌, List, length, get_or, take, drop, map, Some}
use Rattle.std.proofs.Common.{arith, ap, sym, subst, ◌∙◌}
use Rattle.std.specs.Prelude.{Contains, slice_get, slice_range}
use Rattle.std.proofs.lemmas.List.{get_or-drop, get_or-map, get_or-take, length-map, length-take}
use Rattle.std.proofs.lemmas.Option.{slice_get-get_or}
use Rattle.rows.specs.Cardinality.{unit}
use Rattle.rows.specs.Literals.{Literal}
use Rattle.rows.specs.Rows.{Row}
use Rattle.rows.specs.declared.lit.Term.{Term}
use Rattle.refutation.specs.Following.{row_numbered}

-- terms of which one isn't that of its literal
pub units-differ : (terms : List Term) (literals : List Literal) (k : ℕ) (term : Term) (lit : Literal)
    → k < length terms → term ≡ get_or terms k term → lit ≡ get_or literals k lit → (term ≡ unit lit → ⊥)
    → terms ≡ map unit literals → ⊥
units-differ terms literals k term lit there at its differ same =
    let within : k < length literals = omega (arith, there, ap length same, length-map literals unit) in
    differ
    (at ∙ ap (λ (ts : List Term). get_or ts k term) same ∙ get_or-map unit literals k lit term within
    ∙ ap unit (sym its))

-- a row stands at one of some places
pub record IsPlaced (rows : List Row) (from to : ℕ) (row : Row) : Type 0 where
  pub place : ℕ
  pub behind : from ≤ place
  pub before : place < to
  pub there : slice_get rows place ≡ Some row

-- what is among the rows at some places stands at one of them
pub placed : (rows : List Row) (from to : ℕ) (row : Row) → from ≤ to → to ≤ length rows
    → Contains (slice_range rows from to) row → IsPlaced rows from to row
placed rows from to row order within (k, inside, is) =
    let listed : k < length (take (to - from) (drop from rows)) = inside in
    let short : k < to - from = omega (arith, listed, length-take (to - from) (drop from rows)) in
    let read : get_or rows (from + k) row ≡ row =
    sym (get_or-take (to - from) (drop from rows) k row short ∙ get_or-drop from rows k row) ∙ is in
    record {
      place = from + k;
      behind = omega arith;
      before = omega (arith, short);
      there = slice_get-get_or rows (from + k) row (omega (arith, short, within))
          ∙ ap (λ (r : Row). Some r) read;
    }

-- the rows at the places of a constraint, as they are seen
pub there-as : (rows shown own : List Row) (from to : ℕ) (wanted made : Row) → shown ≡ rows
    → slice_range rows from to ≡ own → made ≡ wanted → Contains own wanted → Contains (slice_range shown from to) made
there-as rows shown own from to wanted made same at is there =
    subst (λ (rs : List Row). Contains (slice_range rs from to) made) (sym same)
    (subst (λ (rs : List Row). Contains rs made) (sym at) (subst (λ (r : Row). Contains own r) (sym is) there))

-- the number of the row that is looked for
pub numbered-as : (rows shown : List Row) (wanted made : Row) (number : ℕ) → shown ≡ rows → made ≡ wanted
    → row_numbered shown number ≡ Some made → row_numbered rows number ≡ Some wanted
numbered-as rows shown wanted made number same is at =
    ap (λ (rs : List Row). row_numbered rs number) (sym same) ∙ at ∙ ap (λ (r : Row). Some r) is
