-- Variables that have a value, one after another.
use Rattle.std.proofs.Common.{◌≡◌, ◌≢◌, ℕ, ◌+◌, ◌-◌, ◌<◌, ◌≤◌, Bool, false, true, List, length, get_or, replicate}
use Rattle.std.proofs.Common.{inl, inr, arith, ap, sym, subst, ◌∙◌, get_or-set_same, get_or-set_other}
use Rattle.std.specs.Prelude.{slice_set}
use Rattle.std.specs.List.{All}
use Rattle.std.proofs.lemmas.Bool.{cases_lt}
use Rattle.std.proofs.lemmas.List.{length-replicate, length-set}
use Rattle.rows.specs.Literals.{Literal}
use Rattle.rows.specs.Partials.{IsQuiet, as_value, opposite_of, value_of}
use Rattle.rows.specs.Rows.{IsRow, SatisfiesAll}
use Rattle.rows.specs.Values.{assigned}
use Rattle.rows.specs.declared.partial.Value.{Value}
use Rattle.rows.specs.declared.partial.Value.TheVariants.{Free}
use Rattle.propagate.specs.Trails.{AreLawful, KnowsVariables, SeenTrail, values_of}
use Rattle.clause_search.specs.Turns.{IsFilled}
use Rattle.clause_search.proofs.SatLemmas.{filled_satisfies}

-- none of the first variables is free
abbrev pub NoneFree : (ℕ → Value) → ℕ → Type 0
NoneFree values count = (v : ℕ) → 1 ≤ v → v ≤ count → values v ≢ Free

pub none_more : (values : ℕ → Value) (k : ℕ) (l : Literal) (w : Value) → l ≡ record { var = k + 1; positive = false }
    → w ≡ value_of values l → (w ≡ Free → ⊥)
    → NoneFree values k → NoneFree values (k + 1)
none_more values k l w l_is w_is other front = λ v some most free.
    elim (cases_lt k v) [
      | inl above ↦
          let at : k + 1 ≡ v = omega (arith, above, most) in
          other
          (w_is ∙ ap (λ (m : Literal). value_of values m) l_is ∙ ap (λ (i : ℕ). opposite_of (values i)) at
          ∙ ap opposite_of free)
      | inr past ↦ front v some past free
    ]

-- ---- the values as an assignment

pub filled_start : (values : ℕ → Value) (vars : ℕ) (xs : List Bool) → xs ≡ replicate vars false
    → IsFilled values vars 0 xs
filled_start values vars xs is = record {
  length_is = ap length is ∙ length-replicate vars false;
  each = λ v some none. absurd (omega (arith, some, none));
}

pub filled_more : (values : ℕ → Value) (vars k : ℕ) (xs new : List Bool) (b : Bool) (w : Value) (l : Literal)
    → l ≡ record { var = k + 1; positive = true } → w ≡ value_of values l
    → (w ≢ Free → w ≡ as_value b) → k < vars → new ≡ slice_set xs (k + 1 - 1) b → IsFilled values vars k xs
    → IsFilled values vars (k + 1) new
filled_more values vars k xs new b w l l_is w_is says inside new_is is = record {
  length_is = ap length new_is ∙ length-set xs (k + 1 - 1) b ∙ is.length_is;
  each = λ v some most set.
      elim (cases_lt k v) [
        | inl above ↦
            let at : v ≡ k + 1 = omega (arith, above, most) in
            let place : v - 1 ≡ k + 1 - 1 = omega (arith, at) in
            let same : values v ≡ w =
            ap (λ (i : ℕ). values i) at ∙ sym (w_is ∙ ap (λ (m : Literal). value_of values m) l_is) in
            let here : assigned new v ≡ b =
            ap (λ (n : ℕ). get_or new n false) place
            ∙ ap (λ (ys : List Bool). get_or ys (k + 1 - 1) false) new_is
            ∙ get_or-set_same xs (k + 1 - 1) b false (omega (arith, inside, is.length_is)) in
            same ∙ says (λ free. set (same ∙ free)) ∙ ap as_value (sym here)
        | inr past ↦
            let there : assigned new v ≡ assigned xs v =
            ap (λ (ys : List Bool). get_or ys (v - 1) false) new_is
            ∙ get_or-set_other xs (k + 1 - 1) (v - 1) b false (λ at. omega (arith, at, some, past)) in
            is.each v some past set ∙ ap as_value (sym there)
      ];
}

-- the filled values satisfy the rows
pub filled_answer : (t : SeenTrail) (vars : ℕ) (filled : List Bool) → t.vars ≡ vars → All IsRow t.rows
    → All (KnowsVariables t.vars) t.rows → AreLawful t.rows t.vars t.entries
    → IsQuiet (values_of t.entries) t.rows → NoneFree (values_of t.entries) vars
    → IsFilled (values_of t.entries) vars vars filled
    → (length filled ≡ t.vars) × SatisfiesAll (assigned filled) t.rows
filled_answer t vars filled same proper known lawful quiet total is =
    filled_satisfies t filled proper known lawful quiet
    (subst (λ (n : ℕ). NoneFree (values_of t.entries) n) (sym same) total)
    (subst (λ (n : ℕ). IsFilled (values_of t.entries) n n filled) (sym same) is)
