-- Where propagation stands still and every variable has a value, each row is satisfied.
use Rattle.std.proofs.Common.{◌≡◌, ◌≢◌, ℕ, zero, suc, ◌+◌, ◌<◌, ◌≤◌, Bool, true, false, not, cond, List, [], ◌∷◌}
use Rattle.std.proofs.Common.{get_or, length}
use Rattle.std.proofs.Common.{refl, inl, inr, arith, ap, sym, ◌∙◌}
use Rattle.std.specs.Prelude.{Contains, ◌⊎◌}
use Rattle.std.specs.List.{All}
use Rattle.std.proofs.lemmas.Bool.{cases_lt}
use Rattle.std.proofs.lemmas.List.{take_all}
use Rattle.std.proofs.lemmas.List.Elements.{All-contains, All-head, All-tail}
use Rattle.std.proofs.lemmas.List.Sums.{sum_by-cons}
use Rattle.rows.specs.Literals.{Literal}
use Rattle.rows.specs.Rows.{IsRow, Row, Satisfies, SatisfiesAll, is_true, weight}
use Rattle.rows.specs.Values.{assigned}
use Rattle.rows.specs.Partials.{IsQuiet, IsQuietRow, as_value, is_false, opposite_of, reach, value_of}
use Rattle.rows.specs.declared.lit.Term.{Term}
use Rattle.rows.specs.declared.partial.Value.{Value}
use Rattle.rows.specs.declared.partial.Value.TheVariants.{Free}
use Rattle.rows.proofs.TrailLemmas.{set_true-other}
use Rattle.propagate.specs.Trails.{AreLawful, EachEntry, IsNew, KnowsVariables, SeenTrail, values_of}
use Rattle.propagate.specs.declared.entry.Entry.{Entry}
use Rattle.propagate.proofs.ValueLemmas.{sum_by-agree}
use Rattle.propagate.proofs.LookLemmas.{news}
use Rattle.propagate.proofs.ReachLemmas.{tail_apart}
use Rattle.clause_search.specs.Trails.{before, lit_at, no_entry}
use Rattle.clause_search.specs.Turns.{IsFilled}
use Rattle.clause_search.proofs.ReplayLemmas.{AreApart}
use Rattle.clause_search.proofs.TrailLaws.{before-more}

counts_by : (coef : ℕ) (positive b : Bool) → cond (is_false (cond positive (as_value b) (opposite_of (as_value b)))) 0
    coef ≡ cond (cond positive b (not b)) coef 0
counts_by coef true true = refl
counts_by coef true false = refl
counts_by coef false true = refl
counts_by coef false false = refl

-- a term counts for the reach exactly where its literal is true
counts : (values : ℕ → Value) (assigned : ℕ → Bool) (t : Term) → values t.lit.var ≡ as_value (assigned t.lit.var)
    → cond (is_false (value_of values t.lit)) 0 t.coef ≡ cond (is_true assigned t.lit) t.coef 0
counts values assigned t same =
    ap (λ (v : Value). cond (is_false (cond t.lit.positive v (opposite_of v))) 0 t.coef) same
    ∙ counts_by t.coef t.lit.positive (assigned t.lit.var)

-- ---- rows, whose terms may name no variable

-- a literal of no variable is free
free_none : (values : ℕ → Value) (l : Literal) → values 0 ≡ Free → l.var ≡ 0 → value_of values l ≡ Free
free_none values l none at =
    ap (λ (v : ℕ). cond l.positive (values v) (opposite_of (values v))) at
    ∙ ap (λ (v : Value). cond l.positive v (opposite_of v)) none ∙ free_by l.positive
  where
    free_by : (b : Bool) → cond b Free (opposite_of Free) ≡ Free
    free_by true = refl
    free_by false = refl

abbrev open_coef : (ℕ → Value) → Term → ℕ
open_coef values t = cond (is_false (value_of values t.lit)) 0 t.coef

abbrev true_coef : (ℕ → Bool) → Term → ℕ
true_coef assigned t = cond (is_true assigned t.lit) t.coef 0

-- the values and the assignment agree on these variables
abbrev pub Agree : (ℕ → Value) → (ℕ → Bool) → ℕ → Type 0
Agree values assigned vars = (v : ℕ) → 1 ≤ v → v ≤ vars → values v ≡ as_value (assigned v)

-- where each term has a variable, as much is within reach as the true literals weigh
reach_all : (values : ℕ → Value) (assigned : ℕ → Bool) (vars : ℕ) (terms : List Term) → Agree values assigned vars
    → All (λ t. 1 ≤ t.lit.var) terms → All (λ t. t.lit.var ≤ vars) terms → reach values terms ≡ weight assigned terms
reach_all values assigned vars terms agree from_one known =
    sum_by-agree (open_coef values) (true_coef assigned) terms
    (λ k d within. counts values assigned (get_or terms k d)
    (agree (get_or terms k d).lit.var (from_one k d within) (known k d within)))

-- one term that is free, beside which as much is within reach as the true literals weigh
abbrev HasFree : (ℕ → Value) → (ℕ → Bool) → List Term → Type 0
HasFree values assigned terms =
    (t : Term) × (Contains terms t) × (value_of values t.lit ≡ Free)
    × (reach values terms ≤ weight assigned terms + t.coef)

positive : (v : ℕ) → (v ≡ 0 → ⊥) → 1 ≤ v
positive zero other = absurd (other refl)
positive (suc v) other = omega arith

coef_most : (b : Bool) (coef : ℕ) → cond b 0 coef ≤ coef
coef_most true coef = omega arith
coef_most false coef = omega arith

-- a first term that has a variable
reach_more : (values : ℕ → Value) (assigned : ℕ → Bool) (x : Term) (terms : List Term) → open_coef values x
    ≡ true_coef assigned x
    → (reach values terms ≤ weight assigned terms) ⊎ HasFree values assigned terms
    → (reach values (x ∷ terms) ≤ weight assigned (x ∷ terms)) ⊎ HasFree values assigned (x ∷ terms)
reach_more values assigned x terms same (inl less) =
    inl (omega (arith, sum_by-cons (open_coef values) x terms, sum_by-cons (true_coef assigned) x terms, same, less))
reach_more values assigned x terms same (inr one) =
    inr (
      one.0,
      (suc one.1.0, omega (arith, one.1.1), one.1.2),
      one.2,
      omega (arith, sum_by-cons (open_coef values) x terms, sum_by-cons (true_coef assigned) x terms, same, one.3),
    )

-- a first term that has none
reach_none : (values : ℕ → Value) (assigned : ℕ → Bool) (vars : ℕ) (x : Term) (terms : List Term) → values 0
    ≡ Free → Agree values assigned vars
    → AreApart (x ∷ terms) → All (λ t. t.lit.var ≤ vars) terms → x.lit.var ≡ 0 → HasFree values assigned (x ∷ terms)
reach_none values assigned vars x terms none agree apart known at =
    let rest : reach values terms ≡ weight assigned terms =
    reach_all values assigned vars terms agree
    (λ k d within. positive (get_or terms k d).lit.var
    (λ is. apart 0 (suc k) d (omega arith) (omega (arith, within)) (at ∙ sym is))) known in (
      x,
      (0, omega arith, refl),
      free_none values x.lit none at,
      omega (
        arith,
        sum_by-cons (open_coef values) x terms,
        sum_by-cons (true_coef assigned) x terms,
        rest,
        coef_most (is_false (value_of values x.lit)) x.coef,
      ),
    )

reach_one : (values : ℕ → Value) (assigned : ℕ → Bool) (vars : ℕ) (terms : List Term) → values 0
    ≡ Free → Agree values assigned vars
    → AreApart terms → All (λ t. t.lit.var ≤ vars) terms → (reach values terms ≤ weight assigned terms)
    ⊎ HasFree values assigned terms
reach_one values assigned vars [] none agree apart known = inl (omega arith)
reach_one values assigned vars (x ∷ terms) none agree apart known =
    elim (cases_lt 0 x.lit.var) [
      | inl some ↦
          reach_more values assigned x terms
          (counts values assigned x
          (agree x.lit.var (omega (arith, some)) (All-head (λ (t : Term). t.lit.var ≤ vars) x terms known)))
          (reach_one values assigned vars terms none agree (tail_apart x terms apart)
          (All-tail (λ (t : Term). t.lit.var ≤ vars) x terms known))
      | inr past ↦
          inr (reach_none values assigned vars x terms none agree apart
          (All-tail (λ (t : Term). t.lit.var ≤ vars) x terms known) (omega (arith, past)))
    ]

-- a quiet row is satisfied where every variable has a value
pub satisfies-full : (values : ℕ → Value) (assigned : ℕ → Bool) (vars : ℕ) (row : Row) → values 0
    ≡ Free → Agree values assigned vars
    → IsRow row → KnowsVariables vars row → IsQuietRow values row → Satisfies assigned row
satisfies-full values assigned vars row none agree is known quiet =
    elim (reach_one values assigned vars row.terms none agree is.variables known) [
      | inl less ↦ omega (arith, less, quiet.no_conflict)
      | inr one ↦
          omega (
            arith,
            one.3,
            All-contains (λ (u : Term). value_of values u.lit ≡ Free → row.degree + u.coef ≤ reach values row.terms)
                row.terms one.0 quiet.none_forced one.1 one.2,
          )
    ]

-- ---- a trail on which every variable has a value

-- variable 0 has none
none_zero : (vars : ℕ) (es : List Entry) → EachEntry (IsNew vars) es → (k : ℕ) → k ≤ length es → before es k 0 ≡ Free
none_zero vars es each zero within = refl
none_zero vars es each (suc k) within =
    let there : k < length es = omega (arith, within) in
    let next : suc k ≡ k + 1 = omega arith in
    ap (λ (i : ℕ). before es i 0) next ∙ ap (λ (w : ℕ → Value). w 0) (before-more es k there)
    ∙ set_true-other (before es k) (lit_at es k) 0 (λ same. omega (arith, same, (each k no_entry there).from_one))
    ∙ none_zero vars es each k (omega (arith, within))

pub filled_satisfies : (t : SeenTrail) (filled : List Bool) → All IsRow t.rows → All (KnowsVariables t.vars) t.rows
    → AreLawful t.rows t.vars t.entries → IsQuiet (values_of t.entries) t.rows
    → ((v : ℕ) → 1 ≤ v → v ≤ t.vars → values_of t.entries v ≢ Free)
    → IsFilled (values_of t.entries) t.vars t.vars filled
    → (length filled ≡ t.vars) × SatisfiesAll (assigned filled) t.rows
filled_satisfies t filled proper known lawful quiet total is =
    let none : values_of t.entries 0 ≡ Free =
    ap (λ (es : List Entry). values_of es 0) (sym (take_all (length t.entries) t.entries (omega arith)))
    ∙ none_zero t.vars t.entries (news t.rows t.vars t.entries lawful) (length t.entries) (omega arith) in (
      is.length_is,
      λ k d within.
          satisfies-full (values_of t.entries) (assigned filled) t.vars (get_or t.rows k d) none
          (λ v from_one most. is.each v from_one most (total v from_one most))
          (proper k d within) (known k d within) (quiet k d within),
    )
