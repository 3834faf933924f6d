-- A row has no more terms than there are variables.
use Rattle.std.proofs.Common.{◌≡◌, ◌≢◌, ℕ, zero, suc, ◌+◌, ◌<◌, ◌≤◌, ◌⊎◌, List, [], ◌∷◌, length, get_or}
use Rattle.std.proofs.Common.{inl, inr, arith, sym, subst, ◌∙◌}
use Rattle.std.specs.List.{All, remove}
use Rattle.std.proofs.lemmas.Bool.{cases_eq, cases_lt}
use Rattle.std.proofs.lemmas.List.Edits.{get_or-remove_above, get_or-remove_below, length-remove}
use Rattle.std.proofs.lemmas.List.Quantifiers.{all_pairs_remove}
use Rattle.rows.specs.declared.lit.Term.{Term}
use Rattle.propagate.proofs.ValueLemmas.{AreApart, apart_at}

abbrev HasVariable : ℕ → List Term → Type 0
HasVariable v ts = (k : ℕ) × (k < length ts) × ((d : Term) → (get_or ts k d).lit.var ≡ v)

further : (v : ℕ) (t : Term) (ts : List Term) → t.lit.var ≢ v → HasVariable v ts ⊎ All (λ u. u.lit.var ≢ v) ts → HasVariable v (t ∷ ts) ⊎ All (λ u. u.lit.var ≢ v) (t ∷ ts)
further v t ts other (inl has) = inl (suc has.0, omega (arith, has.1), has.2)
further v t ts other (inr lacks) = inr (lacks_cons v t ts other lacks) where
  lacks_cons : (v : ℕ) (t : Term) (ts : List Term) → t.lit.var ≢ v → All (λ u. u.lit.var ≢ v) ts → All (λ u. u.lit.var ≢ v) (t ∷ ts)
  lacks_cons v t ts other lacks zero d within = other
  lacks_cons v t ts other lacks (suc k) d within = lacks k d (omega arith)

has_or_lacks : (v : ℕ) (ts : List Term) → HasVariable v ts ⊎ All (λ u. u.lit.var ≢ v) ts
has_or_lacks v [] = inr (λ k d within. absurd (omega arith))
has_or_lacks v (t ∷ ts) = elim (cases_eq t.lit.var v) [
  | inl same ↦ inl (0, omega arith, λ d. same)
  | inr differ ↦ further v t ts differ (has_or_lacks v ts)
]

abbrev AreWithin : ℕ → List Term → Type 0
AreWithin n ts = All (λ t. (1 ≤ t.lit.var) × (t.lit.var ≤ n)) ts

below_other : (v n : ℕ) → v ≤ n + 1 → v ≢ n + 1 → v ≤ n
below_other v n within other = elim (cases_lt v (n + 1)) [
  | inl less ↦ omega (arith, less)
  | inr past ↦ absurd (other (omega (arith, past, within)))
]

-- without the term of the last variable
within_fewer : (n k : ℕ) (ts : List Term) → AreApart ts → AreWithin (n + 1) ts → k < length ts → ((d : Term) → (get_or ts k d).lit.var ≡ n + 1) → AreWithin n (remove ts k)
within_fewer n k ts apart within there is = λ j d inside. elim (cases_lt j k) [
  | inl before ↦
      let at : get_or (remove ts k) j d ≡ get_or ts j d = get_or-remove_below ts k d j before there in
      subst (λ (t : Term). (1 ≤ t.lit.var) × (t.lit.var ≤ n)) (sym at) (fewer j d (omega arith) (omega arith))
  | inr past ↦
      let at : get_or (remove ts k) j d ≡ get_or ts (j + 1) d = get_or-remove_above ts k d j past there in
      subst (λ (t : Term). (1 ≤ t.lit.var) × (t.lit.var ≤ n)) (sym at) (fewer (j + 1) d (omega (arith, inside, length-remove ts k there)) (omega arith))
] where
  fewer : (j : ℕ) (d : Term) → j < length ts → j ≢ k → (1 ≤ (get_or ts j d).lit.var) × ((get_or ts j d).lit.var ≤ n)
  fewer j d inside other =
      let differ : (get_or ts j d).lit.var ≢ n + 1 = λ same. apart_at ts j k d apart inside there other (same ∙ sym (is d)) in
      ((within j d inside).0, below_other (get_or ts j d).lit.var n (within j d inside).1 differ)

pub few-terms : (n : ℕ) (ts : List Term) → AreApart ts → AreWithin n ts → length ts ≤ n
few-terms zero [] apart within = omega arith
few-terms zero (t ∷ ts) apart within =
    let first : (1 ≤ t.lit.var) × (t.lit.var ≤ zero) = within 0 t (omega arith) in
    absurd (omega (arith, first.0, first.1))
few-terms (suc n) ts apart within = elim (has_or_lacks (n + 1) ts) [
  | inl has ↦
      omega (
        arith,
        length-remove ts has.0 has.1,
        few-terms n (remove ts has.0) (all_pairs_remove (λ t u. t.lit.var ≢ u.lit.var) ts has.0 has.1 apart) (within_fewer n has.0 ts apart (λ k d inside. ((within k d inside).0, omega (arith, (within k d inside).1))) has.1 has.2),
      )
  | inr lacks ↦
      omega (arith, few-terms n ts apart (λ k d inside. ((within k d inside).0, below_other (get_or ts k d).lit.var n (omega (arith, (within k d inside).1)) (lacks k d inside))))
]
