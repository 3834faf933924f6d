-- One literal more is true, and what that does to other literals and to rows.
use Rattle.std.proofs.Common.{◌≡◌, ◌≢◌, ℕ, suc, ◌<◌, Bool, true, false, cond, List, [], ◌∷◌, length, get_or}
use Rattle.std.proofs.Common.{refl, inl, inr, arith, ap, sym, subst, ◌∙◌}
use Rattle.std.specs.List.{AllPairs, sum_by}
use Rattle.std.proofs.lemmas.Bool.{cases_eq, cases_lt, false≢true}
use Rattle.std.proofs.lemmas.List.{get_or_default}
use Rattle.std.proofs.lemmas.List.Sums.{sum_by-cons}
use Rattle.rows.specs.Forcing.{set_true}
use Rattle.rows.specs.Literals.{Literal}
use Rattle.rows.specs.Partials.{as_value, is_false, is_free, opposite_of, reach, value_of}
use Rattle.rows.specs.declared.lit.Term.{Term}
use Rattle.rows.specs.declared.partial.Value.{Value}
use Rattle.rows.specs.declared.partial.Value.TheVariants.{True, False, Free}
use Rattle.rows.proofs.TrailLemmas.{is_free-value_of, set_true-other, set_true-same}

pub free_is : (v : Value) → is_free v ≡ true → v ≡ Free
free_is True free = absurd (false≢true free)
free_is False free = absurd (false≢true free)
free_is Free free = refl

pub is_free_var : (values : ℕ → Value) (l : Literal) → value_of values l ≡ Free → is_free (values l.var) ≡ true
is_free_var values l free = sym (is_free-value_of values l) ∙ ap is_free free

pub value_of-other : (values : ℕ → Value) (l m : Literal) → m.var ≢ l.var → value_of (set_true values l) m ≡ value_of values m
value_of-other values l m other = ap (λ (v : Value). cond m.positive v (opposite_of v)) (set_true-other values l m.var other)

by_sign : (positive : Bool) → cond positive (as_value positive) (opposite_of (as_value positive)) ≡ True
by_sign true = refl
by_sign false = refl

pub value_of-same : (values : ℕ → Value) (l : Literal) → value_of values l ≡ Free → value_of (set_true values l) l ≡ True
value_of-same values l free =
    ap (λ (v : Value). cond l.positive v (opposite_of v)) (set_true-same values l (is_free_var values l free)) ∙ by_sign l.positive

-- what is free was free
pub was_free : (values : ℕ → Value) (l m : Literal) → value_of values l ≡ Free → value_of (set_true values l) m ≡ Free → value_of values m ≡ Free
was_free values l m l_free free =
    elim (cases_eq m.var l.var) [
      | inl same ↦
          free_is (value_of values m)
          (is_free-value_of values m ∙ ap (λ (v : ℕ). is_free (values v)) same ∙ is_free_var values l l_free)
      | inr other ↦ sym (value_of-other values l m other) ∙ free
    ]

-- ---- rows

pub sum_by-agree : {X : Type 0} (f g : X → ℕ) (xs : List X) → ((k : ℕ) (d : X) → k < length xs → f (get_or xs k d) ≡ g (get_or xs k d)) → sum_by f xs ≡ sum_by g xs
sum_by-agree f g [] agree = refl
sum_by-agree f g (x ∷ xs) agree =
    omega (arith, sum_by-cons f x xs, sum_by-cons g x xs, agree 0 x (omega arith), sum_by-agree f g xs (λ k d within. agree (suc k) d (omega arith)))

abbrev pub open_coef : (ℕ → Value) → Term → ℕ
open_coef values t = cond (is_false (value_of values t.lit)) 0 t.coef

pub open_kept : (coef : ℕ) (v w : Value) → v ≡ True → w ≡ Free → cond (is_false v) 0 coef ≡ cond (is_false w) 0 coef
open_kept coef v w is was = ap (λ (x : Value). cond (is_false x) 0 coef) is ∙ sym (ap (λ (x : Value). cond (is_false x) 0 coef) was)

abbrev pub AreApart : List Term → Type 0
AreApart terms = AllPairs (λ t u. t.lit.var ≢ u.lit.var) terms

pub apart_at : (terms : List Term) (j k : ℕ) (d : Term) → AreApart terms → j < length terms → k < length terms → j ≢ k → (get_or terms j d).lit.var ≢ (get_or terms k d).lit.var
apart_at terms j k d apart inside there differ =
    elim (cases_lt j k) [
      | inl before ↦ apart j k d before there
      | inr past ↦ λ same. apart k j d (omega arith) inside (sym same)
    ]

coef_own : (values : ℕ → Value) (t u : Term) → t ≡ u → value_of values t.lit ≡ Free → open_coef (set_true values t.lit) u ≡ open_coef values u
coef_own values t u same free =
    subst (λ (s : Term). open_coef (set_true values t.lit) s ≡ open_coef values s) same
    (open_kept t.coef (value_of (set_true values t.lit) t.lit) (value_of values t.lit) (value_of-same values t.lit free) free)

pub coef_other : (values : ℕ → Value) (l : Literal) (u : Term) → u.lit.var ≢ l.var → open_coef (set_true values l) u ≡ open_coef values u
coef_other values l u other = ap (λ (v : Value). cond (is_false v) 0 u.coef) (value_of-other values l u.lit other)

-- a row's reach stays where one of its literals becomes true
pub reach-own : (values : ℕ → Value) (terms : List Term) (k : ℕ) (t : Term) → AreApart terms → k < length terms
    → t ≡ get_or terms k t → value_of values t.lit ≡ Free → reach (set_true values t.lit) terms ≡ reach values terms
reach-own values terms k t apart there is free =
    sum_by-agree (open_coef (set_true values t.lit)) (open_coef values) terms (λ j e inside.
    let at : t ≡ get_or terms k e = is ∙ get_or_default terms k t e there in
    elim (cases_eq j k) [
      | inl same ↦ coef_own values t (get_or terms j e) (at ∙ ap (λ (i : ℕ). get_or terms i e) (sym same)) free
      | inr differ ↦
          coef_other values t.lit (get_or terms j e)
          (λ same. apart_at terms j k e apart inside there differ (same ∙ ap (λ (u : Term). u.lit.var) at))
    ])
