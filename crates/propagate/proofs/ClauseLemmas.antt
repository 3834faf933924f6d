-- Clauses: which values make them quiet, force a literal of them, or are in conflict with them.
use Rattle.std.proofs.Common.{◌≡◌, ◌≢◌, ℕ, suc, ◌+◌, ◌<◌, ◌≤◌, ◌⊎◌, Bool, false, cond, List, [], ◌∷◌, ◌++◌, length}
use Rattle.std.proofs.Common.{get_or, take}
use Rattle.std.proofs.Common.{refl, inl, inr, arith, ap, sym, subst, ◌∙◌}
use Rattle.std.specs.Prelude.{Contains}
use Rattle.std.specs.List.{All, sum_by}
use Rattle.std.proofs.lemmas.Bool.{cases_eq, cases_lt}
use Rattle.std.proofs.lemmas.List.{get_or_default, get_or-take, length-take-le}
use Rattle.std.proofs.lemmas.List.Sums.{get_or-le-sum_by, sum_by-cons, sum_by_more_le}
use Rattle.rows.specs.Cardinality.{unit}
use Rattle.rows.specs.Literals.{Literal}
use Rattle.rows.specs.Rows.{Row}
use Rattle.rows.specs.Partials.{IsInConflict, IsQuietRow, is_false, reach, value_of}
use Rattle.rows.specs.declared.lit.Term.{Term}
use Rattle.rows.specs.declared.partial.Value.{Value}
use Rattle.rows.specs.declared.partial.Value.TheVariants.{True, False, Free}
use Rattle.propagate.specs.Trails.{IsLawful, values_of}
use Rattle.propagate.specs.Numbered.{row_at}
use Rattle.propagate.specs.Paths.{SeenPath, with_entries}
use Rattle.propagate.specs.Looks.{AreSound, IsGrownOver}
use Rattle.propagate.specs.Watches.{AllFalseBut, IsClause}
use Rattle.propagate.proofs.EntryLemmas.{IsGrown-none, IsGrown-push, each-push}
use Rattle.propagate.proofs.LookLemmas.{IsLawful-forced, apart_in, forced_entry}
use Rattle.propagate.proofs.ReachLemmas.{at_most_coef, tail_apart}
use Rattle.propagate.proofs.ValueLemmas.{AreApart, apart_at, open_coef}

-- ---- terms

pub true_not_free : True ≡ Free → ⊥
true_not_free same = cc

pub true_not_false : True ≡ False → ⊥
true_not_false same = cc

pub free_not_false : Free ≡ False → ⊥
free_not_false same = cc

not_false : (v : Value) → v ≢ False → is_false v ≡ false
not_false True other = refl
not_false False other = absurd (other refl)
not_false Free other = refl

abbrev AreOnes : List Term → Type 0
AreOnes terms = All (λ t. t.coef ≡ 1) terms

-- a term of coefficient 1
pub unit_is : (t : Term) → t.coef ≡ 1 → unit t.lit ≡ t
unit_is t one = ap (λ (n : ℕ). let u : Term = record { coef = n; lit = t.lit } in u) (sym one)

-- where a literal stands
pub lit_there : (terms : List Term) (l : Literal) (d : Term) (there : Contains terms (unit l))
    → (get_or terms there.0 d).lit ≡ l
lit_there terms l d there = ap (λ (t : Term). t.lit) (get_or_default terms there.0 d (unit l) there.1 ∙ there.2)

-- a literal that stands at a place
pub Contains-lit : (terms : List Term) (k : ℕ) (t : Term) → AreOnes terms → k < length terms → t ≡ get_or terms k t
    → Contains terms (unit t.lit)
Contains-lit terms k t ones within at =
    let is : unit t.lit ≡ t = unit_is t (ap (λ (u : Term). u.coef) at ∙ ones k t within) in
    subst (λ (u : Term). Contains terms u) (sym is) (k, within, sym at)

counts : (values : ℕ → Value) (terms : List Term) (k : ℕ) (d : Term) → AreOnes terms → k < length terms
    → value_of values (get_or terms k d).lit ≢ False
    → open_coef values (get_or terms k d) ≡ 1
counts values terms k d ones within other =
    ap (λ (b : Bool). cond b 0 (get_or terms k d).coef) (not_false (value_of values (get_or terms k d).lit) other)
    ∙ ones k d within

counts_not : (values : ℕ → Value) (t : Term) → value_of values t.lit ≡ False → open_coef values t ≡ 0
counts_not values t is = ap (λ (v : Value). cond (is_false v) 0 t.coef) is

-- two elements are within a sum
two_within : {X : Type 0} (f : X → ℕ) (xs : List X) (i j : ℕ) (d : X) → i < j → j < length xs
    → f (get_or xs i d) + f (get_or xs j d) ≤ sum_by f xs
two_within f xs i j d before within =
    omega (
      arith,
      sum_by_more_le f xs j d within,
      get_or-le-sum_by f (take j xs) i d (omega (arith, length-take-le j xs (omega arith))),
      ap f (get_or-take j xs i d before),
    )

reach-two : (values : ℕ → Value) (terms : List Term) (j k : ℕ) (d : Term) → AreOnes terms → j < length terms
    → k < length terms → j ≢ k
    → value_of values (get_or terms j d).lit ≢ False → value_of values (get_or terms k d).lit ≢ False
    → 2 ≤ reach values terms
reach-two values terms j k d ones inside within differ first second =
    let here : open_coef values (get_or terms j d) ≡ 1 = counts values terms j d ones inside first in
    let there : open_coef values (get_or terms k d) ≡ 1 = counts values terms k d ones within second in
    elim (cases_lt j k) [
      | inl before ↦ omega (arith, here, there, two_within (open_coef values) terms j k d before within)
      | inr past ↦ omega (arith, here, there, two_within (open_coef values) terms k j d (omega arith) inside)
    ]

reach-one : (values : ℕ → Value) (terms : List Term) (k : ℕ) (d : Term) → AreOnes terms → k < length terms
    → value_of values (get_or terms k d).lit ≢ False → 1 ≤ reach values terms
reach-one values terms k d ones within other =
    omega (arith, counts values terms k d ones within other, get_or-le-sum_by (open_coef values) terms k d within)

reach-none : (values : ℕ → Value) (terms : List Term) → All (λ t. value_of values t.lit ≡ False) terms
    → reach values terms ≡ 0
reach-none values [] all = refl
reach-none values (t ∷ ts) all =
    omega (
      arith,
      sum_by-cons (open_coef values) t ts,
      counts_not values t (all 0 t (omega arith)),
      reach-none values ts (λ k d within. all (suc k) d (omega arith)),
    )

abbrev FalseBut : ℕ → (ℕ → Value) → Term → Type 0
FalseBut v values t = (value_of values t.lit ≡ False) ⊎ ((1 ≤ v) × (t.lit.var ≡ v))

-- where a variable stands, the rest is false
rest_false : (values : ℕ → Value) (v : ℕ) (t : Term) (ts : List Term) → AreApart (t ∷ ts)
    → t.lit.var ≡ v → All (FalseBut v values) (t ∷ ts) → All (λ u. value_of values u.lit ≡ False) ts
rest_false values v t ts apart is all = λ k d within.
    by (get_or ts k d) (λ same. apart 0 (suc k) d (omega arith) (omega arith) (is ∙ sym same))
    (all (suc k) d (omega arith)) where
      by : (u : Term) → u.lit.var ≢ v → FalseBut v values u → value_of values u.lit ≡ False
      by u other (inl false_is) = false_is
      by u other (inr same) = absurd (other same.1)

reach-but : (values : ℕ → Value) (v : ℕ) (terms : List Term) → AreApart terms → AreOnes terms
    → All (FalseBut v values) terms → reach values terms ≤ 1
reach-but values v [] apart ones all = omega arith
reach-but values v (t ∷ ts) apart ones all =
    step (cases_eq t.lit.var v)
    (reach-but values v ts (tail_apart t ts apart) (λ k d within. ones (suc k) d (omega arith))
    (λ k d within. all (suc k) d (omega arith))) where
      one : t.coef ≡ 1
      one = ones 0 t (omega arith)

      by : t.lit.var ≢ v → FalseBut v values t → open_coef values t ≡ 0
      by other (inl false_is) = counts_not values t false_is
      by other (inr same) = absurd (other same.1)

      step : (t.lit.var ≡ v) ⊎ (t.lit.var ≢ v) → reach values ts ≤ 1 → reach values (t ∷ ts) ≤ 1
      step (inl same) rest =
          omega (
            arith,
            sum_by-cons (open_coef values) t ts,
            one,
            at_most_coef t.coef (value_of values t.lit),
            reach-none values ts (rest_false values v t ts apart same all),
          )
      step (inr other) rest = omega (arith, sum_by-cons (open_coef values) t ts, by other (all 0 t (omega arith)), rest)

-- ---- clauses

no_term : Term
no_term = record { coef = 0; lit = record { var = 0; positive = false } }

-- a literal is true
pub IsQuietRow-true : (values : ℕ → Value) (row : Row) (l : Literal) → IsClause row → Contains row.terms (unit l)
    → value_of values l ≡ True → IsQuietRow values row
IsQuietRow-true values row l clause there is =
    record {
      no_conflict =
          omega (arith, clause.degree_is, reach-one values row.terms there.0 no_term clause.ones there.1 not_here);
      none_forced = λ j d inside free.
          omega (
            arith,
            clause.degree_is,
            clause.ones j d inside,
            reach-two values row.terms j there.0 d clause.ones inside there.1
                (λ same. true_not_free
                (sym (is_at d) ∙ ap (λ (i : ℕ). value_of values (get_or row.terms i d).lit) (sym same) ∙ free))
                (λ no_more. free_not_false (sym free ∙ no_more)) (λ no_more. true_not_false (sym (is_at d) ∙ no_more)),
          );
    } where
      is_at : (d : Term) → value_of values (get_or row.terms there.0 d).lit ≡ True
      is_at d = ap (λ (m : Literal). value_of values m) (lit_there row.terms l d there) ∙ is

      not_here : value_of values (get_or row.terms there.0 no_term).lit ≢ False
      not_here = λ no_more. true_not_false (sym (is_at no_term) ∙ no_more)

-- two literals aren't false
pub IsQuietRow-two : (values : ℕ → Value) (row : Row) (l m : Literal) → IsClause row → Contains row.terms (unit l)
    → Contains row.terms (unit m) → l.var ≢ m.var
    → value_of values l ≢ False → value_of values m ≢ False → IsQuietRow values row
IsQuietRow-two values row l m clause first second apart first_open second_open =
    record {
      no_conflict = omega (arith, clause.degree_is, reached);
      none_forced = λ j d inside free. omega (arith, clause.degree_is, clause.ones j d inside, reached);
    } where
      differ : first.0 ≢ second.0
      differ =
          λ same. apart (ap (λ (x : Literal). x.var)
          (sym (lit_there row.terms l no_term first) ∙ ap (λ (i : ℕ). (get_or row.terms i no_term).lit) same
          ∙ lit_there row.terms m no_term second))

      reached : 2 ≤ reach values row.terms
      reached =
          reach-two values row.terms first.0 second.0 no_term clause.ones first.1 second.1 differ
          (λ no_more. first_open (sym (ap (λ (x : Literal). value_of values x) (lit_there row.terms l no_term first))
          ∙ no_more))
          (λ no_more. second_open
          (sym (ap (λ (x : Literal). value_of values x) (lit_there row.terms m no_term second)) ∙ no_more))

-- all are false
pub IsInConflict-none : (values : ℕ → Value) (row : Row) → IsClause row
    → All (λ t. value_of values t.lit ≡ False) row.terms → IsInConflict values row
IsInConflict-none values row clause all = omega (arith, clause.degree_is, reach-none values row.terms all)

pub all_false_zero : (values : ℕ → Value) (row : Row) → AllFalseBut 0 values row
    → All (λ t. value_of values t.lit ≡ False) row.terms
all_false_zero values row all = λ k d within. by (get_or row.terms k d) (all k d within) where
  by : (t : Term) → FalseBut 0 values t → value_of values t.lit ≡ False
  by t (inl is) = is
  by t (inr same) = absurd (omega (arith, same.0))

-- all are false where the one is that might not be
pub all_false_last : (values : ℕ → Value) (row : Row) (l : Literal) → AreApart row.terms → Contains row.terms (unit l)
    → value_of values l ≡ False → AllFalseBut l.var values row
    → All (λ t. value_of values t.lit ≡ False) row.terms
all_false_last values row l apart there is all = λ k d within. by k d within (all k d within) where
  by : (k : ℕ) (d : Term) → k < length row.terms → FalseBut l.var values (get_or row.terms k d)
      → value_of values (get_or row.terms k d).lit ≡ False
  by k d within (inl false_is) = false_is
  by k d within (inr same) =
      elim (cases_eq k there.0) [
        | inl here ↦
            ap (λ (i : ℕ). value_of values (get_or row.terms i d).lit) here
            ∙ ap (λ (m : Literal). value_of values m) (lit_there row.terms l d there) ∙ is
        | inr other ↦
            absurd (apart_at row.terms k there.0 d apart within there.1 other
            (same.1 ∙ sym (ap (λ (m : Literal). m.var) (lit_there row.terms l d there))))
      ]

-- ---- the last literal is forced

-- one entry more
pub IsGrownOver-one : (path new : SeenPath) (l : Literal) (number : ℕ) → AreSound path
    → IsLawful path.rows path.vars path.entries (forced_entry path.entries l number)
    → new ≡ with_entries path (path.entries ++ forced_entry path.entries l number ∷ []) → IsGrownOver path new
IsGrownOver-one path new l number sound lawful is =
    subst (λ (p : SeenPath). IsGrownOver path p) (sym is) (record {
      same = refl;
      grown =
          IsGrown-push path.entries path.entries (forced_entry path.entries l number) (IsGrown-none path.entries) refl;
      lawful =
          each-push (IsLawful path.rows path.vars) path.entries (forced_entry path.entries l number) sound.lawful
          lawful;
    })

pub IsGrownOver-last : (path new : SeenPath) (place number : ℕ) (l : Literal) → AreSound path → path.given ≤ place
    → place < length path.rows → number ≡ place + 1
    → Contains (row_at path.rows place).terms (unit l)
    → AllFalseBut l.var (values_of path.entries) (row_at path.rows place) → value_of (values_of path.entries) l
    ≡ Free → 1 ≤ l.var
    → new ≡ with_entries path (path.entries ++ forced_entry path.entries l number ∷ []) → IsGrownOver path new
IsGrownOver-last path new place number l sound from within is there others free from_one grows =
    IsGrownOver-one path new l number sound
    (IsLawful-forced path.rows path.vars place number there.0 (unit l) path.entries within is there.1 (sym there.2)
    from_one known free
    (omega (
      arith,
      clause.degree_is,
      reach-one (values_of path.entries) row.terms there.0 no_term clause.ones there.1
          not_false_there,
    ))
    (omega (
      arith,
      clause.degree_is,
      reach-but (values_of path.entries) l.var row.terms
          (apart_in path place sound within) clause.ones others,
    )))
    grows where
      row : Row
      row = row_at path.rows place

      clause : IsClause row
      clause = sound.clauses place from within

      not_false_there : value_of (values_of path.entries) (get_or row.terms there.0 no_term).lit ≢ False
      not_false_there =
          λ no_more. free_not_false
          (sym free ∙ sym (ap (λ (m : Literal). value_of (values_of path.entries) m)
          (lit_there row.terms l no_term there)) ∙ no_more)

      known : l.var ≤ path.vars
      known =
          subst (λ (m : Literal). m.var ≤ path.vars) (lit_there row.terms l no_term there)
          (sound.known place (record { terms = []; degree = 0 }) within there.0 no_term there.1)
