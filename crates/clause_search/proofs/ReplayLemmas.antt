-- Literals that are made true in turn, and the reach of a row under other values.
use Rattle.std.proofs.Common.{◌≡◌, ◌≢◌, ℕ, zero, suc, ◌+◌, ◌<◌, ◌≤◌, Bool, true, false, ◌&&◌, cond, nat_lt, List, []}
use Rattle.std.proofs.Common.{◌∷◌, length, get_or, map}
use Rattle.std.proofs.Common.{refl, inl, inr, arith, ap, sym, subst, ◌∙◌}
use Rattle.std.specs.Prelude.{Contains}
use Rattle.std.specs.List.{AllPairs, filter, sum_by}
use Rattle.std.proofs.lemmas.Bool.{cases_eq}
use Rattle.std.proofs.lemmas.Bool.Decides.{nat_tests}
use Rattle.std.proofs.lemmas.List.Sums.{sum_by-cons}
use Rattle.rows.specs.Forcing.{all_set, forced_by, set_true, with_forced}
use Rattle.rows.specs.Literals.{Literal}
use Rattle.rows.specs.Rows.{Row}
use Rattle.rows.specs.Partials.{is_false, is_forced, is_free, reach, value_of}
use Rattle.rows.specs.declared.lit.Term.{Term}
use Rattle.rows.specs.declared.partial.Value.{Value}
use Rattle.rows.specs.declared.partial.Value.TheVariants.{True, False, Free}
use Rattle.rows.proofs.TrailLemmas.{is_free-value_of, set_true-kept}
use Rattle.propagate.proofs.ValueLemmas.{value_of-other, value_of-same}

-- ---- one literal

-- what is true isn't free, so it stays true
pub stays_true : (values : ℕ → Value) (l m : Literal) → value_of values m ≡ True → value_of (set_true values l) m ≡ True
stays_true values l m is =
    elim (cases_eq m.var l.var) [
      | inl same ↦
          let taken : is_free (value_of values l) ≡ false =
          is_free-value_of values l ∙ ap (λ (v : ℕ). is_free (values v)) (sym same) ∙ sym (is_free-value_of values m)
          ∙ ap is_free is in
          ap (λ (w : ℕ → Value). value_of w m) (set_true-kept values l taken) ∙ is
      | inr other ↦ value_of-other values l m other ∙ is
    ]

pub all_stays_true : (values : ℕ → Value) (ls : List Literal) (m : Literal) → value_of values m
    ≡ True → value_of (all_set values ls) m ≡ True
all_stays_true values [] m is = is
all_stays_true values (l ∷ ls) m is = all_stays_true (set_true values l) ls m (stays_true values l m is)

-- ---- a list of literals of different variables

abbrev pub Differ : List Literal → Type 0
Differ literals = AllPairs (λ l m. l.var ≢ m.var) literals

pub differ_tail : (l : Literal) (ls : List Literal) → Differ (l ∷ ls) → Differ ls
differ_tail l ls differ =
    λ i j d before within. differ (suc i) (suc j) d (omega (arith, before)) (omega (arith, within))

-- each of them that was free is true
pub all_set-true : (values : ℕ → Value) (ls : List Literal) (m : Literal) → Differ ls → Contains ls m
    → value_of values m ≡ Free → value_of (all_set values ls) m ≡ True
all_set-true values [] m differ there free = absurd (omega (arith, there.1))
all_set-true values (l ∷ ls) m differ there free =
    set_at values l ls m differ (λ w d c f. all_set-true w ls m d c f) there.0 there.1 there.2 free
  where
    set_at : (values : ℕ → Value) (l : Literal) (ls : List Literal) (m : Literal) → Differ (l ∷ ls)
        → ((w : ℕ → Value) → Differ ls → Contains ls m → value_of w m ≡ Free → value_of (all_set w ls) m ≡ True)
        → (k : ℕ) → k < length (l ∷ ls) → get_or (l ∷ ls) k m ≡ m → value_of values m
        ≡ Free → value_of (all_set values (l ∷ ls)) m ≡ True
    set_at values l ls m differ rest zero within is free =
        all_stays_true (set_true values l) ls m
        (subst (λ (x : Literal). value_of (set_true values x) m ≡ True) (sym is) (value_of-same values m free))
    set_at values l ls m differ rest (suc k) within is free =
        let other : m.var ≢ l.var =
        λ same. differ 0 (suc k) m (omega arith) within (sym same ∙ ap (λ (x : Literal). x.var) (sym is)) in
        rest (set_true values l) (differ_tail l ls differ) (k, omega (arith, within), is)
        (value_of-other values l m other ∙ free)

-- ---- what a row forces

abbrev pub AreApart : List Term → Type 0
AreApart terms = AllPairs (λ t u. t.lit.var ≢ u.lit.var) terms

-- the literals of some terms that pass a test, made true in turn
abbrev pub passing_set : (Term → Bool) → (ℕ → Value) → List Term → ℕ → Value
passing_set test values terms = all_set values (map (λ t. t.lit) (filter test terms))

passing_cons : (test : Term → Bool) (values : ℕ → Value) (s : Term) (ss : List Term) (m : Literal) (b : Bool) → test s
    ≡ b → m.var ≢ s.lit.var
    → ((w : ℕ → Value) → value_of w m ≡ Free → value_of (passing_set test w ss) m ≡ True)
    → value_of values m ≡ Free → value_of (passing_set test values (s ∷ ss)) m ≡ True
passing_cons test values s ss m true passes other rest free =
    ap (λ (b : Bool). value_of
    (all_set values (map (λ (t : Term). t.lit) (cond b (s ∷ filter test ss) (filter test ss)))) m) passes
    ∙ rest (set_true values s.lit) (value_of-other values s.lit m other ∙ free)
passing_cons test values s ss m false passes other rest free =
    ap (λ (b : Bool). value_of
    (all_set values (map (λ (t : Term). t.lit) (cond b (s ∷ filter test ss) (filter test ss)))) m) passes
    ∙ rest values free

passing_here : (test : Term → Bool) (values : ℕ → Value) (s : Term) (ss : List Term) → test s
    ≡ true → value_of values s.lit ≡ Free
    → value_of (passing_set test values (s ∷ ss)) s.lit ≡ True
passing_here test values s ss passes free =
    ap (λ (b : Bool). value_of
    (all_set values (map (λ (t : Term). t.lit) (cond b (s ∷ filter test ss) (filter test ss)))) s.lit) passes
    ∙ all_stays_true (set_true values s.lit) (map (λ t. t.lit) (filter test ss)) s.lit (value_of-same values s.lit free)

apart_tail : (s : Term) (ss : List Term) → AreApart (s ∷ ss) → AreApart ss
apart_tail s ss apart = λ i j d before within. apart (suc i) (suc j) d (omega (arith, before)) (omega (arith, within))

pub passing_set-true : (test : Term → Bool) (values : ℕ → Value) (terms : List Term) (t : Term) (k : ℕ)
    → AreApart terms → k < length terms → get_or terms k t ≡ t
    → test t ≡ true → value_of values t.lit ≡ Free → value_of (passing_set test values terms) t.lit ≡ True
passing_set-true test values [] t k apart within is passes free = absurd (omega (arith, within))
passing_set-true test values (s ∷ ss) t zero apart within is passes free =
    subst (λ (u : Term). value_of (passing_set test values (u ∷ ss)) t.lit ≡ True) (sym is)
    (passing_here test values t ss passes free)
passing_set-true test values (s ∷ ss) t (suc k) apart within is passes free =
    let other : t.lit.var ≢ s.lit.var =
    λ same. apart 0 (suc k) t (omega arith) within (sym same ∙ ap (λ (u : Term). u.lit.var) (sym is)) in
    passing_cons test values s ss t.lit (test s) refl other
    (λ w w_free. passing_set-true test w ss t k (apart_tail s ss apart) (omega (arith, within)) is passes w_free) free

is_forced_by : (v : Value) (reached degree coef : ℕ) → v ≡ Free → reached < degree + coef
    → (is_free v && nat_lt reached (degree + coef)) ≡ true
is_forced_by v reached degree coef free needed =
    ap (λ (w : Value). is_free w && nat_lt reached (degree + coef)) free ∙ grind (arith, nat_tests)

-- a free literal with a coefficient above the slack is forced
pub with_forced-true : (values : ℕ → Value) (row : Row) (t : Term) → AreApart row.terms → Contains row.terms t
    → value_of values t.lit ≡ Free
    → reach values row.terms < row.degree + t.coef → value_of (with_forced values row) t.lit ≡ True
with_forced-true values row t apart there free needed =
    passing_set-true (is_forced values row.terms row.degree) values row.terms t there.0 apart there.1 there.2
    (is_forced_by (value_of values t.lit) (reach values row.terms) row.degree t.coef free needed) free

pub with_forced-stays : (values : ℕ → Value) (row : Row) (l : Literal) → value_of values l
    ≡ True → value_of (with_forced values row) l ≡ True
with_forced-stays values row l is = all_stays_true values (forced_by values row) l is

-- ---- reaches

pub sum_by-pointwise : {X : Type 0} (f g : X → ℕ) (xs : List X) → ((x : X) → Contains xs x → f x ≤ g x)
    → sum_by f xs ≤ sum_by g xs
sum_by-pointwise f g [] below = omega arith
sum_by-pointwise f g (x ∷ xs) below =
    omega (
      arith,
      sum_by-cons f x xs,
      sum_by-cons g x xs,
      below x (0, omega arith, refl),
      sum_by-pointwise f g xs (λ y there. below y (suc there.0, omega (arith, there.1), there.2)),
    )

-- a sum of no larger terms is less by what one element loses
pub sum_by-less : {X : Type 0} (f g : X → ℕ) (xs : List X) (y : X) (k lost : ℕ)
    → ((x : X) → Contains xs x → f x ≤ g x) → k < length xs → get_or xs k y ≡ y
    → f y + lost ≤ g y → sum_by f xs + lost ≤ sum_by g xs
sum_by-less f g [] y k lost below within is less = absurd (omega (arith, within))
sum_by-less f g (x ∷ xs) y zero lost below within is less =
    omega (
      arith,
      sum_by-cons f x xs,
      sum_by-cons g x xs,
      subst (λ z. f z + lost ≤ g z) (sym is) less,
      sum_by-pointwise f g xs (λ z there. below z (suc there.0, omega (arith, there.1), there.2)),
    )
sum_by-less f g (x ∷ xs) y (suc k) lost below within is less =
    omega (
      arith,
      sum_by-cons f x xs,
      sum_by-cons g x xs,
      below x (0, omega arith, refl),
      sum_by-less f g xs y k lost (λ z there. below z (suc there.0, omega (arith, there.1), there.2))
          (omega (arith, within)) is less,
    )

abbrev pub open_coef : (ℕ → Value) → Term → ℕ
open_coef values t = cond (is_false (value_of values t.lit)) 0 t.coef

open_le : (coef : ℕ) (v w : Value) → (w ≡ False → v ≡ False) → cond (is_false v) 0 coef ≤ cond (is_false w) 0 coef
open_le coef True True falls = omega arith
open_le coef True Free falls = omega arith
open_le coef True False falls = absurd (not_both (falls refl))
  where
    not_both : True ≡ False → ⊥
    not_both same = cc
open_le coef Free True falls = omega arith
open_le coef Free Free falls = omega arith
open_le coef Free False falls = absurd (not_both (falls refl))
  where
    not_both : Free ≡ False → ⊥
    not_both same = cc
open_le coef False w falls = omega arith

-- where what is false under some values is false under others too, those reach no more
abbrev pub Falls : (ℕ → Value) → (ℕ → Value) → List Term → Type 0
Falls old new terms = (t : Term) → Contains terms t → value_of old t.lit ≡ False → value_of new t.lit ≡ False

pub reach-falls : (old new : ℕ → Value) (terms : List Term) → Falls old new terms → reach new terms ≤ reach old terms
reach-falls old new terms falls =
    sum_by-pointwise (open_coef new) (open_coef old) terms
    (λ t there. open_le t.coef (value_of new t.lit) (value_of old t.lit) (falls t there))

open_lost : (coef : ℕ) (v w : Value) → v ≡ False → w ≡ Free → cond (is_false v) 0 coef + coef ≤ cond (is_false w) 0 coef
open_lost coef v w false_now was_free =
    omega (
      arith,
      ap (λ (x : Value). cond (is_false x) 0 coef) false_now,
      ap (λ (x : Value). cond (is_false x) 0 coef)
          was_free,
    )

-- the reach is less by a coefficient whose literal was free and is false
pub reach-lost : (old new : ℕ → Value) (terms : List Term) (t : Term) → Falls old new terms → Contains terms t
    → value_of old t.lit ≡ Free → value_of new t.lit ≡ False
    → reach new terms + t.coef ≤ reach old terms
reach-lost old new terms t falls there was_free false_now =
    sum_by-less (open_coef new) (open_coef old) terms t there.0 t.coef
    (λ u u_there. open_le u.coef (value_of new u.lit) (value_of old u.lit) (falls u u_there)) there.1 there.2
    (open_lost t.coef (value_of new t.lit) (value_of old t.lit) false_now was_free)
