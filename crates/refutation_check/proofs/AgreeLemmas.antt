-- Values of all variables that agree with a partial assignment: what they satisfy, and how they go on to agree.
use Rattle.std.proofs.Common.{◌≡◌, ℕ, ◌+◌, ◌<◌, ◌≤◌, ◌==◌, nat_lt, ◌&&◌, Bool, true, false, not, cond, if◌then◌else◌}
use Rattle.std.proofs.Common.{List, [], ◌∷◌, map, inl, inr, refl, arith, ap, sym}
use Rattle.std.specs.List.{All, filter}
use Rattle.std.proofs.lemmas.Bool.{cases_Bool}
use Rattle.std.proofs.lemmas.Bool.Decides.{nat_tests}
use Rattle.std.proofs.lemmas.List.Elements.{All-nil, All-cons, All-head, All-tail, All-weaker}
use Rattle.std.proofs.lemmas.List.Elements.{All-map, All-filter, filter_passes}
use Rattle.std.proofs.lemmas.List.Sums.{sum_by-cons}
use Rattle.rows.specs.Literals.{Literal, negate}
use Rattle.rows.specs.Rows.{Row, Satisfies, is_true, weight}
use Rattle.rows.specs.Partials.{as_value, is_false, is_forced, is_free, opposite_of, reach, value_of}
use Rattle.rows.specs.Forcing.{all_set, forced_by, set_true, with_forced}
use Rattle.rows.specs.declared.lit.Term.{Term}
use Rattle.rows.specs.declared.partial.Value.{Value}
use Rattle.rows.specs.declared.partial.Value.TheVariants.{True, False, Free}
use Rattle.refutation.specs.Following.{all_free, denied, is_in_conflict}

-- a truth value and a partial one: where there is one, they are the same
abbrev pub Agrees : Bool → Value → Type 0
Agrees truth True = truth ≡ true
Agrees truth False = truth ≡ false
Agrees truth Free = Unit {0}

abbrev pub Agree : (ℕ → Bool) → (ℕ → Value) → Type 0
Agree values partial = (v : ℕ) → Agrees (values v) (partial v)

-- ---- what is within reach

-- a literal that is true isn't false
true_is_possible : (truth : Bool) (value : Value) (positive : Bool) → Agrees truth value
    → (if positive then truth else not truth) ≡ true
    → is_false (if positive then value else opposite_of value) ≡ false
true_is_possible true True true a t = refl
true_is_possible true True false a t = sym t
true_is_possible true False true a t = a
true_is_possible true False false a t = refl
true_is_possible true Free true a t = refl
true_is_possible true Free false a t = refl
true_is_possible false True true a t = refl
true_is_possible false True false a t = sym a
true_is_possible false False true a t = sym t
true_is_possible false False false a t = refl
true_is_possible false Free true a t = refl
true_is_possible false Free false a t = refl

-- what a true literal counts is within reach
within : (is out : Bool) (coef : ℕ) → (is ≡ true → out ≡ false) → cond is coef 0 ≤ cond out 0 coef
within true true coef possible = absurd (let e : true ≡ false = possible refl in cc)
within true false coef possible = omega arith
within false true coef possible = omega arith
within false false coef possible = omega arith

-- the part of a term in the weight, and in the reach
abbrev true_coef : (ℕ → Bool) → Term → ℕ
true_coef values t = if is_true values t.lit then t.coef else 0

abbrev possible_coef : (ℕ → Value) → Term → ℕ
possible_coef partial t = if is_false (value_of partial t.lit) then 0 else t.coef

coef-within : (values : ℕ → Bool) (partial : ℕ → Value) → Agree values partial → (t : Term)
    → true_coef values t ≤ possible_coef partial t
coef-within values partial agree t =
    within (is_true values t.lit) (is_false (value_of partial t.lit)) t.coef
    (true_is_possible (values t.lit.var) (partial t.lit.var) t.lit.positive (agree t.lit.var))

pub weight-reach : (values : ℕ → Bool) (partial : ℕ → Value) → Agree values partial → (terms : List Term)
    → weight values terms ≤ reach partial terms
weight-reach values partial agree [] = omega arith
weight-reach values partial agree (t ∷ terms) =
    omega (
      arith,
      sum_by-cons (true_coef values) t terms,
      sum_by-cons (possible_coef partial) t terms,
      coef-within values partial agree t,
      weight-reach values partial agree terms,
    )

below_degree : (reached degree : ℕ) → nat_lt reached degree ≡ true → reached < degree
below_degree reached degree below = grind (arith, nat_tests)

-- no values that agree meet a row in conflict
pub conflict_refutes : (values : ℕ → Bool) (partial : ℕ → Value) → Agree values partial → (row : Row)
    → is_in_conflict partial row ≡ true → Satisfies values row → ⊥
conflict_refutes values partial agree row conflict met =
    omega
    (arith, below_degree (reach partial row.terms) row.degree conflict, weight-reach values partial agree row.terms)

-- ---- what is forced

-- a free literal that isn't true leaves a gap as wide as its coefficient
abbrev Gap : (ℕ → Bool) → (ℕ → Value) → List Term → Term → Type 0
Gap values partial terms t =
    is_true values t.lit ≡ false → is_free (value_of partial t.lit) ≡ true
    → weight values terms + t.coef ≤ reach partial terms

-- a literal that isn't true adds nothing to the weight
untrue : (values : ℕ → Bool) (t : Term) → is_true values t.lit ≡ false → true_coef values t ≡ 0
untrue values t is = ap (λ (b : Bool). cond b t.coef 0) is

free_is_possible : (value : Value) → is_free value ≡ true → is_false value ≡ false
free_is_possible True is = refl
free_is_possible False is = sym is
free_is_possible Free is = refl

possible : (partial : ℕ → Value) (t : Term) → is_free (value_of partial t.lit) ≡ true
    → possible_coef partial t ≡ t.coef
possible partial t is = ap (λ (b : Bool). cond b 0 t.coef) (free_is_possible (value_of partial t.lit) is)

gap : (values : ℕ → Bool) (partial : ℕ → Value) → Agree values partial → (terms : List Term)
    → All (Gap values partial terms) terms
gap values partial agree [] = All-nil (Gap values partial [])
gap values partial agree (t ∷ terms) =
    All-cons (Gap values partial (t ∷ terms)) t terms
    (λ is free. omega (
      arith,
      sum_by-cons (true_coef values) t terms,
      sum_by-cons (possible_coef partial) t terms,
      untrue values t is,
      possible partial t free,
      weight-reach values partial agree terms,
    ))
    (All-weaker (Gap values partial terms) (Gap values partial (t ∷ terms))
    (λ u narrow is free. omega (
      arith,
      sum_by-cons (true_coef values) t terms,
      sum_by-cons (possible_coef partial) t terms,
      coef-within values partial agree t,
      narrow is free,
    ))
    terms (gap values partial agree terms))

forced_parts : (free : Bool) (reached total : ℕ) → free && nat_lt reached total ≡ true
    → (free ≡ true) × (reached < total)
forced_parts true reached total is = (refl, grind (arith, nat_tests))
forced_parts false reached total is = absurd (cc)

-- a forced literal is true where the row is met
forced_holds : (values : ℕ → Bool) (partial : ℕ → Value) → Agree values partial → (row : Row)
    → Satisfies values row
    → All (λ t. is_forced partial row.terms row.degree t ≡ true → is_true values t.lit ≡ true) row.terms
forced_holds values partial agree row met =
    All-weaker (Gap values partial row.terms)
    (λ t. is_forced partial row.terms row.degree t ≡ true → is_true values t.lit ≡ true)
    (λ t narrow forced. elim (cases_Bool (is_true values t.lit)) [
      | inl is ↦ is
      | inr is ↦
          let parts : (is_free (value_of partial t.lit) ≡ true) × (reach partial row.terms < row.degree + t.coef) =
          forced_parts (is_free (value_of partial t.lit)) (reach partial row.terms) (row.degree + t.coef) forced in
          let wide : weight values row.terms + t.coef ≤ reach partial row.terms = narrow is parts.0 in
          absurd (omega (arith, wide, parts.1, met))
    ])
    row.terms (gap values partial agree row.terms)

-- ---- literals made true

true_agrees : (truth positive : Bool) → (if positive then truth else not truth) ≡ true
    → Agrees truth (as_value positive)
true_agrees truth true is = is
true_agrees true false is = sym is
true_agrees false false is = refl

either_agrees : (truth test : Bool) (set kept : Value) → (test ≡ true → Agrees truth set) → Agrees truth kept
    → Agrees truth (if test then set else kept)
either_agrees truth true set kept on off = on refl
either_agrees truth false set kept on off = off

same_var : (v w : ℕ) (free : Bool) → v == w && free ≡ true → v ≡ w
same_var v w free is = grind (arith, nat_tests)

Agree-set_true : (values : ℕ → Bool) (partial : ℕ → Value) (l : Literal) → Agree values partial
    → is_true values l ≡ true → Agree values (set_true partial l)
Agree-set_true values partial l agree is v =
    either_agrees (values v) (v == l.var && is_free (partial v)) (as_value l.positive) (partial v)
    (λ here.
    let same : v ≡ l.var = same_var v l.var (is_free (partial v)) here in
    rw same (true_agrees (values l.var) l.positive is))
    (agree v)

pub Agree-all_set : (values : ℕ → Bool) (literals : List Literal) (partial : ℕ → Value) → Agree values partial
    → All (λ l. is_true values l ≡ true) literals → Agree values (all_set partial literals)
Agree-all_set values [] partial agree all = agree
Agree-all_set values (l ∷ literals) partial agree all =
    Agree-all_set values literals (set_true partial l)
    (Agree-set_true values partial l agree (All-head (λ m. is_true values m ≡ true) l literals all))
    (All-tail (λ m. is_true values m ≡ true) l literals all)

pub Agree-with_forced : (values : ℕ → Bool) (partial : ℕ → Value) (row : Row) → Agree values partial
    → Satisfies values row → Agree values (with_forced partial row)
Agree-with_forced values partial row agree met =
    let test = λ (t : Term). is_forced partial row.terms row.degree t in
    let kept : All (λ t. test t ≡ true → is_true values t.lit ≡ true) (filter test row.terms) =
    All-filter test (λ t. test t ≡ true → is_true values t.lit ≡ true) row.terms
    (forced_holds values partial agree row met) in
    let passed : All (λ t. test t ≡ true) (filter test row.terms) = filter_passes test row.terms in
    Agree-all_set values (forced_by partial row) partial agree
    (All-map (λ l. is_true values l ≡ true) (λ (t : Term). t.lit) (filter test row.terms)
    (λ k d there. kept k d there (passed k d there)))

-- ---- a clause that isn't met

negated : (truth positive : Bool) → (if positive then truth else not truth) ≡ false
    → (if not positive then truth else not truth) ≡ true
negated true true is = sym is
negated true false is = refl
negated false true is = refl
negated false false is = sym is

-- values that meet no literal of a clause agree with its negation
pub Agree-denied : (values : ℕ → Bool) (clause : List Literal) → All (λ l. is_true values l ≡ false) clause
    → Agree values (denied clause)
Agree-denied values clause all =
    Agree-all_set values (map negate clause) all_free (λ v. tt)
    (All-map (λ l. is_true values l ≡ true) negate clause
    (All-weaker (λ l. is_true values l ≡ false) (λ l. is_true values (negate l) ≡ true)
    (λ l is. negated (values l.var) l.positive is) clause all))
