-- The reach of a row where one more literal is true.
use Rattle.std.proofs.Common.{◌≡◌, ◌≢◌, ℕ, zero, suc, ◌+◌, ◌*◌, ◌<◌, ◌≤◌, Bool, true, false, not, cond, List, [], ◌∷◌, length, get_or}
use Rattle.std.proofs.Common.{refl, inl, inr, arith, ap, sym, ◌∙◌}
use Rattle.std.specs.Prelude.{Contains}
use Rattle.std.specs.List.{All}
use Rattle.std.proofs.lemmas.Bool.{cases_eq}
use Rattle.std.proofs.lemmas.List.Sums.{sum_by-cons}
use Rattle.rows.specs.Codes.{code_of}
use Rattle.rows.specs.Forcing.{set_true}
use Rattle.rows.specs.Literals.{Literal, negate}
use Rattle.rows.specs.Partials.{is_false, opposite_of, reach, value_of}
use Rattle.rows.specs.declared.lit.Term.{Term}
use Rattle.rows.specs.declared.partial.Value.{Value}
use Rattle.rows.specs.declared.partial.Value.TheVariants.{True, False, Free}
use Rattle.propagate.specs.Links.{Lacks}
use Rattle.propagate.proofs.ValueLemmas.{AreApart, coef_other, open_coef, open_kept, sum_by-agree, value_of-same}

-- ---- literals

abbrev literal : ℕ → Bool → Literal
literal v positive = record { var = v; positive = positive }

same_parts : (l m : Literal) → l.var ≡ m.var → l.positive ≡ m.positive → l ≡ m
same_parts l m var sign = ap (λ (v : ℕ). literal v l.positive) var ∙ ap (λ (p : Bool). literal m.var p) sign

same_sign : (a b : Bool) → (a ≡ not b → ⊥) → a ≡ b
same_sign true true other = refl
same_sign true false other = absurd (other refl)
same_sign false true other = absurd (other refl)
same_sign false false other = refl

-- a literal of the same variable that isn't the negation
pub same_literal : (l m : Literal) → m ≢ negate l → m.var ≡ l.var → m ≡ l
same_literal l m other var = same_parts m l var (same_sign m.positive l.positive (λ sign. other (same_parts m (negate l) var sign)))

code_parts : (v w : ℕ) (p q : Bool) → v * 2 + cond p 0 1 ≡ w * 2 + cond q 0 1 → (v ≡ w) × (p ≡ q)
code_parts v w true true same = (omega arith, refl)
code_parts v w true false same = absurd (omega arith)
code_parts v w false true same = absurd (omega arith)
code_parts v w false false same = (omega arith, refl)

-- a literal has its number alone
pub same_code : (l m : Literal) → code_of l ≡ code_of m → l ≡ m
same_code l m same =
    let parts : (l.var ≡ m.var) × (l.positive ≡ m.positive) = code_parts l.var m.var l.positive m.positive same in
    same_parts l m parts.0 parts.1

code_below : (v vars : ℕ) (p : Bool) → v ≤ vars → v * 2 + cond p 0 1 < 2 * vars + 2
code_below v vars true within = omega arith
code_below v vars false within = omega arith

pub code_of-below : (l : Literal) (vars : ℕ) → l.var ≤ vars → code_of l < 2 * vars + 2
code_of-below l vars within = code_below l.var vars l.positive within

opposite_by : (v : Value) (p : Bool) → cond (not p) v (opposite_of v) ≡ opposite_of (cond p v (opposite_of v))
opposite_by v true = refl
opposite_by True false = refl
opposite_by False false = refl
opposite_by Free false = refl

pub value_of-negate : (values : ℕ → Value) (l : Literal) → value_of values (negate l) ≡ opposite_of (value_of values l)
value_of-negate values l = opposite_by (values l.var) l.positive

-- ---- one term

kept : (values : ℕ → Value) (l : Literal) (t : Term) → value_of values l ≡ Free → t.lit ≢ negate l → open_coef (set_true values l) t ≡ open_coef values t
kept values l t free other =
    elim (cases_eq t.lit.var l.var) [
      | inl same ↦
          let is : t.lit ≡ l = same_literal l t.lit other same in
          open_kept t.coef (value_of (set_true values l) t.lit) (value_of values t.lit)
          (ap (λ (m : Literal). value_of (set_true values l) m) is ∙ value_of-same values l free)
          (ap (λ (m : Literal). value_of values m) is ∙ free)
      | inr differ ↦ coef_other values l t differ
    ]

-- the negation's term counts before, and no longer
lost : (values : ℕ → Value) (l : Literal) (t : Term) → value_of values l ≡ Free → t.lit ≡ negate l
    → (open_coef values t ≡ t.coef) × (open_coef (set_true values l) t ≡ 0)
lost values l t free is =
    let was : value_of values t.lit ≡ Free = ap (λ (m : Literal). value_of values m) is ∙ value_of-negate values l ∙ ap opposite_of free in
    let now : value_of (set_true values l) t.lit ≡ False =
    ap (λ (m : Literal). value_of (set_true values l) m) is ∙ value_of-negate (set_true values l) l ∙ ap opposite_of (value_of-same values l free) in
    (ap (λ (v : Value). cond (is_false v) 0 t.coef) was, ap (λ (v : Value). cond (is_false v) 0 t.coef) now)

-- ---- a row

-- a row in which the negation doesn't stand
pub reach-lacks : (values : ℕ → Value) (l : Literal) (terms : List Term) → value_of values l ≡ Free → Lacks (negate l) terms
    → reach (set_true values l) terms ≡ reach values terms
reach-lacks values l terms free lacks =
    sum_by-agree (open_coef (set_true values l)) (open_coef values) terms (λ k d within. kept values l (get_or terms k d) free (lacks k d within))

pub tail_apart : (t : Term) (ts : List Term) → AreApart (t ∷ ts) → AreApart ts
tail_apart t ts apart = λ i j d before within. apart (suc i) (suc j) d (omega arith) (omega arith)

-- the terms behind it lack it
rest_lacks : (t : Term) (ts : List Term) (l : Literal) → AreApart (t ∷ ts) → t.lit ≡ l → Lacks l ts
rest_lacks t ts l apart is = λ k d within same. apart 0 (suc k) d (omega arith) (omega arith) (ap (λ (m : Literal). m.var) (is ∙ sym same))

reach-has_at : (values : ℕ → Value) (l : Literal) (terms : List Term) (k : ℕ) (t : Term) → AreApart terms → k < length terms → get_or terms k t ≡ t
    → t.lit ≡ negate l → value_of values l ≡ Free → reach values terms ≡ reach (set_true values l) terms + t.coef
reach-has_at values l [] k t apart within at is free = absurd (omega arith)
reach-has_at values l (u ∷ us) zero t apart within at is free =
    let here : u.lit ≡ negate l = ap (λ (v : Term). v.lit) at ∙ is in
    let parts : (open_coef values u ≡ u.coef) × (open_coef (set_true values l) u ≡ 0) = lost values l u free here in
    let coef : u.coef ≡ t.coef = ap (λ (v : Term). v.coef) at in
    omega (
      arith,
      sum_by-cons (open_coef values) u us,
      sum_by-cons (open_coef (set_true values l)) u us,
      parts.0,
      parts.1,
      coef,
      reach-lacks values l us free (rest_lacks u us (negate l) apart here),
    )
reach-has_at values l (u ∷ us) (suc k) t apart within at is free =
    let other : u.lit ≢ negate l = λ here. rest_lacks u us (negate l) apart here k t (omega arith) (ap (λ (v : Term). v.lit) at ∙ is) in
    omega (
      arith,
      sum_by-cons (open_coef values) u us,
      sum_by-cons (open_coef (set_true values l)) u us,
      kept values l u free other,
      reach-has_at values l us k t (tail_apart u us apart) (omega arith) at is free,
    )

-- a row in which the negation stands
pub reach-has : (values : ℕ → Value) (l : Literal) (terms : List Term) (t : Term) → AreApart terms → Contains terms t → t.lit ≡ negate l → value_of values l ≡ Free
    → reach values terms ≡ reach (set_true values l) terms + t.coef
reach-has values l terms t apart there is free = reach-has_at values l terms there.0 t apart there.1 there.2 is free

pub at_most_coef : (coef : ℕ) (v : Value) → cond (is_false v) 0 coef ≤ coef
at_most_coef coef True = omega arith
at_most_coef coef False = omega arith
at_most_coef coef Free = omega arith

free_by : (p : Bool) (coef : ℕ) → cond (is_false (cond p Free (opposite_of Free))) 0 coef ≡ coef
free_by true coef = refl
free_by false coef = refl

-- no reach is above that where all is free
pub reach-le_free : (values : ℕ → Value) (terms : List Term) → reach values terms ≤ reach (λ v. Free) terms
reach-le_free values [] = omega arith
reach-le_free values (t ∷ ts) =
    omega (
      arith,
      sum_by-cons (open_coef values) t ts,
      sum_by-cons (open_coef (λ v. Free)) t ts,
      at_most_coef t.coef (value_of values t.lit),
      free_by t.lit.positive t.coef,
      reach-le_free values ts,
    )

-- where all coefficients are 1 it is at most the number of terms
pub reach-le_length : (values : ℕ → Value) (terms : List Term) → All (λ t. t.coef ≡ 1) terms → reach values terms ≤ length terms
reach-le_length values [] ones = omega arith
reach-le_length values (t ∷ ts) ones =
    omega (
      arith,
      sum_by-cons (open_coef values) t ts,
      at_most_coef t.coef (value_of values t.lit),
      ones 0 t (omega arith),
      reach-le_length values ts (λ k d within. ones (suc k) d (omega arith)),
    )
