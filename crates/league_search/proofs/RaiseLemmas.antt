-- Rows and literals with higher variables mean the same of values of these variables.
use Rattle.std.proofs.Common.{◌≡◌, ◌≢◌, ℕ, ◌+◌, ◌-◌, ◌<◌, ◌≤◌, ◌==◌, nat_lt, ◌&&◌, Bool, true, false, not, cond}
use Rattle.std.proofs.Common.{List, [], ◌∷◌, length, map, get_or, if◌then◌else◌}
use Rattle.std.proofs.Common.{refl, arith, ap, sym, subst, ◌∙◌}
use Rattle.std.specs.Prelude.{Contains}
use Rattle.std.specs.List.{All, AllPairs, filter, list_all}
use Rattle.std.proofs.lemmas.Bool.{and_from}
use Rattle.std.proofs.lemmas.Bool.Decides.{nat_tests}
use Rattle.std.proofs.lemmas.List.{get_or-map, length-map}
use Rattle.std.proofs.lemmas.List.Elements.{All-head, All-map, All-tail, All-weaker, Contains-get_or}
use Rattle.std.proofs.lemmas.List.Sums.{sum_by-cons}
use Rattle.rows.specs.Cardinality.{unit}
use Rattle.rows.specs.Forcing.{all_set, forced_by, set_true, with_forced}
use Rattle.rows.specs.Literals.{Literal, negate}
use Rattle.rows.specs.Partials.{IsEmpowering, IsQuiet, IsQuietRow, as_value, is_false, is_forced, is_free, opposite_of}
use Rattle.rows.specs.Partials.{reach, value_of}
use Rattle.rows.specs.Rows.{Row, Satisfies, SatisfiesAll, is_true, weight}
use Rattle.rows.specs.declared.lit.Term.{Term}
use Rattle.rows.specs.declared.partial.Value.{Value}
use Rattle.rows.specs.declared.partial.Value.TheVariants.{False, Free}
use Rattle.rows.proofs.UnitLemmas.{AllPairs-map}
use Rattle.refutation.specs.Following.{all_free, clause_row, denied, is_in_conflict}
use Rattle.clause_search.proofs.CountLemmas.{clause_row-differ}
use Rattle.league_search.specs.Raised.{IsFromOne, raised_literal, raised_row, raised_term}

-- ---- numbers

same_lowered : (v w x : ℕ) → v + x ≡ w + x → v ≡ w
same_lowered v w x same = omega (arith, same)

lowers : (v x : ℕ) → v + x - x ≡ v
lowers v x = omega arith

same_test : (v w x : ℕ) → ((v + x) == (w + x)) ≡ (v == w)
same_test v w x = grind (arith, nat_tests)

above : (v x : ℕ) → 1 ≤ v → nat_lt x (v + x) ≡ true
above v x some = grind (arith, nat_tests)

-- ---- values

-- `over` gives a raised variable what `under` gives the variable
abbrev pub Raises : ℕ → (ℕ → Value) → (ℕ → Value) → Type 0
Raises x over under = (v : ℕ) → over (v + x) ≡ under v

-- `over` gives a raised variable the truth value that `under` gives the variable
abbrev pub RaisesTruth : ℕ → (ℕ → Bool) → (ℕ → Bool) → Type 0
RaisesTruth x over under = (v : ℕ) → over (v + x) ≡ under v

module _ (x : ℕ) (over under : ℕ → Value) (raises : Raises x over under) where
  pub value_of-raised : (l : Literal) → value_of over (raised_literal x l) ≡ value_of under l
  value_of-raised l = ap (λ (v : Value). if l.positive then v else opposite_of v) (raises l.var)

  pub reach-raised : (terms : List Term) → reach over (map (raised_term x) terms) ≡ reach under terms
  reach-raised [] = refl
  reach-raised (t ∷ terms) =
      omega (
        arith,
        sum_by-cons (λ (u : Term). if is_false (value_of over u.lit) then 0 else u.coef) (raised_term x t)
            (map (raised_term x) terms),
        sum_by-cons (λ (u : Term). if is_false (value_of under u.lit) then 0 else u.coef) t terms,
        ap (λ (v : Value). if is_false v then 0 else t.coef) (value_of-raised t.lit),
        reach-raised terms,
      )

  pub conflict-raised : (row : Row) → is_in_conflict over (raised_row x row) ≡ is_in_conflict under row
  conflict-raised row = ap (λ (r : ℕ). nat_lt r row.degree) (reach-raised row.terms)

  is_forced-raised : (terms : List Term) (degree : ℕ) (t : Term)
      → is_forced over (map (raised_term x) terms) degree (raised_term x t) ≡ is_forced under terms degree t
  is_forced-raised terms degree t =
      ap (λ (v : Value). is_free v && nat_lt (reach over (map (raised_term x) terms)) (degree + t.coef))
      (value_of-raised t.lit)
      ∙ ap (λ (r : ℕ). is_free (value_of under t.lit) && nat_lt r (degree + t.coef)) (reach-raised terms)

-- the literals of the terms that pass, raised
passing-raised : (x : ℕ) (high low : Term → Bool) → ((t : Term) → high (raised_term x t) ≡ low t) → (terms : List Term)
    → map (λ t. t.lit) (filter high (map (raised_term x) terms))
    ≡ map (raised_literal x) (map (λ t. t.lit) (filter low terms))
passing-raised x high low same [] = refl
passing-raised x high low same (t ∷ terms) =
    by (passing-raised x high low same terms) (high (raised_term x t)) (low t) (same t) where
      by : map (λ u. u.lit) (filter high (map (raised_term x) terms))
          ≡ map (raised_literal x) (map (λ u. u.lit) (filter low terms)) → (a b : Bool) → a ≡ b
          → map (λ u. u.lit) (cond a (raised_term x t ∷ filter high (map (raised_term x) terms))
          (filter high (map (raised_term x) terms)))
          ≡ map (raised_literal x) (map (λ u. u.lit) (cond b (t ∷ filter low terms) (filter low terms)))
      by rest true true is = ap (λ (ls : List Literal). raised_literal x t.lit ∷ ls) rest
      by rest true false is = absurd (cc)
      by rest false true is = absurd (cc)
      by rest false false is = rest

-- ---- literals made true

set_true-raised : (x : ℕ) (over under : ℕ → Value) → Raises x over under → (l : Literal)
    → Raises x (set_true over (raised_literal x l)) (set_true under l)
set_true-raised x over under raises l = λ v.
    ap (λ (b : Bool). if b && is_free (over (v + x)) then as_value l.positive else over (v + x)) (same_test v l.var x)
    ∙ ap (λ (w : Value). if v == l.var && is_free w then as_value l.positive else w) (raises v)

pub all_set-raised : (x : ℕ) (literals : List Literal) (over under : ℕ → Value) → Raises x over under
    → Raises x (all_set over (map (raised_literal x) literals)) (all_set under literals)
all_set-raised x [] over under raises = raises
all_set-raised x (l ∷ literals) over under raises =
    all_set-raised x literals (set_true over (raised_literal x l)) (set_true under l)
    (set_true-raised x over under raises l)

pub with_forced-raised : (x : ℕ) (over under : ℕ → Value) → Raises x over under → (row : Row)
    → Raises x (with_forced over (raised_row x row)) (with_forced under row)
with_forced-raised x over under raises row =
    subst (λ (ls : List Literal). Raises x (all_set over ls) (with_forced under row))
    (sym (passing-raised x (is_forced over (map (raised_term x) row.terms) row.degree)
    (is_forced under row.terms row.degree) (is_forced-raised x over under raises row.terms row.degree) row.terms))
    (all_set-raised x (forced_by under row) over under raises)

negate-raised : (x : ℕ) (clause : List Literal)
    → map negate (map (raised_literal x) clause) ≡ map (raised_literal x) (map negate clause)
negate-raised x [] = refl
negate-raised x (l ∷ clause) =
    ap (λ (ls : List Literal). raised_literal x (negate l) ∷ ls) (negate-raised x clause)

pub denied-raised : (x : ℕ) (clause : List Literal) → Raises x (denied (map (raised_literal x) clause)) (denied clause)
denied-raised x clause =
    subst (λ (ls : List Literal). Raises x (all_set all_free ls) (denied clause)) (sym (negate-raised x clause))
    (all_set-raised x (map negate clause) all_free all_free (λ v. refl))

-- ---- clauses

abbrev pub Differ : List Literal → Type 0
Differ clause = AllPairs (λ l m. l.var ≢ m.var) clause

pub differ-raised : (x : ℕ) (clause : List Literal) → Differ clause → Differ (map (raised_literal x) clause)
differ-raised x clause differ =
    AllPairs-map (λ (l m : Literal). l.var ≢ m.var) (raised_literal x) clause
    (λ i j d before within same.
    differ i j d before within (same_lowered (get_or clause i d).var (get_or clause j d).var x same))

units-raised : (x : ℕ) (clause : List Literal)
    → map unit (map (raised_literal x) clause) ≡ map (raised_term x) (map unit clause)
units-raised x [] = refl
units-raised x (l ∷ clause) = ap (λ (ts : List Term). unit (raised_literal x l) ∷ ts) (units-raised x clause)

pub clause_row-raised : (x : ℕ) (clause : List Literal) → Differ clause
    → clause_row (map (raised_literal x) clause) ≡ raised_row x (clause_row clause)
clause_row-raised x clause differ =
    clause_row-differ (map (raised_literal x) clause) (differ-raised x clause differ)
    ∙ ap (λ (ts : List Term). record { terms = ts; degree = 1 }) (units-raised x clause)
    ∙ ap (λ (row : Row). raised_row x row) (sym (clause_row-differ clause differ))

-- the variables of a clause's row are those of the clause
pub clause_row-from_one : (clause : List Literal) → Differ clause → All (λ l. 1 ≤ l.var) clause
    → IsFromOne (clause_row clause)
clause_row-from_one clause differ from_one =
    subst (λ (row : Row). IsFromOne row) (sym (clause_row-differ clause differ))
    (All-map (λ (t : Term). 1 ≤ t.lit.var) unit clause from_one)

pub pattern_row-raised : (x : ℕ) (terms : List Term) → All (λ t. 1 ≤ t.lit.var) terms
    → list_all (λ t. nat_lt x t.lit.var) (map (raised_term x) terms) ≡ true
pattern_row-raised x [] from_one = refl
pattern_row-raised x (t ∷ terms) from_one =
    and_from (nat_lt x (t.lit.var + x)) (list_all (λ u. nat_lt x u.lit.var) (map (raised_term x) terms))
    (above t.lit.var x (All-head (λ (u : Term). 1 ≤ u.lit.var) t terms from_one))
    (pattern_row-raised x terms (All-tail (λ (u : Term). 1 ≤ u.lit.var) t terms from_one))

-- ---- quiet values

-- values of raised variables
abbrev pub raised_values : ℕ → (ℕ → Value) → ℕ → Value
raised_values x values v = values (v - x)

pub raises_values : (x : ℕ) (values : ℕ → Value) → Raises x (raised_values x values) values
raises_values x values = λ v. ap values (lowers v x)

quiet_row-raised : (x : ℕ) (over under : ℕ → Value) → Raises x over under → (row : Row) → IsQuietRow under row
    → IsQuietRow over (raised_row x row)
quiet_row-raised x over under raises row quiet = record {
  no_conflict = omega (arith, reach-raised x over under raises row.terms, quiet.no_conflict);
  none_forced = All-map
      (λ (t : Term). value_of over t.lit ≡ Free → row.degree + t.coef ≤ reach over (map (raised_term x) row.terms))
      (raised_term x) row.terms
      (λ k d within free. omega (
        arith,
        reach-raised x over under raises row.terms,
        quiet.none_forced k d within
            (sym (value_of-raised x over under raises (get_or row.terms k d).lit) ∙ free),
      ));
}

pub quiet-raised : (x : ℕ) (over under : ℕ → Value) → Raises x over under → (rows : List Row) → IsQuiet under rows
    → IsQuiet over (map (raised_row x) rows)
quiet-raised x over under raises rows quiet =
    All-map (IsQuietRow over) (raised_row x) rows
    (All-weaker (IsQuietRow under) (λ (row : Row). IsQuietRow over (raised_row x row))
    (quiet_row-raised x over under raises) rows quiet)

-- ---- empowering clauses

Contains-raised : (x : ℕ) (clause : List Literal) (l : Literal) → Contains clause l
    → Contains (map (raised_literal x) clause) (raised_literal x l)
Contains-raised x clause l (k, within, is) = (
  k,
  omega (arith, within, length-map clause (raised_literal x)),
  get_or-map (raised_literal x) clause k l (raised_literal x l) within ∙ ap (raised_literal x) is,
)

-- a literal of a raised clause is one of the clause, raised
lowered_literal : (x : ℕ) (clause : List Literal) (l other : Literal) → Contains (map (raised_literal x) clause) other
    → (m : Literal) × Contains clause m × (raised_literal x m ≡ other)
lowered_literal x clause l other (k, within, is) =
    let inside : k < length clause = omega (arith, within, length-map clause (raised_literal x)) in (
      get_or clause k l,
      Contains-get_or clause k l inside,
      sym (get_or-map (raised_literal x) clause k l other inside) ∙ is,
    )

pub empowering-raised : (x : ℕ) (rows : List Row) (clause : List Literal) → IsEmpowering rows clause
    → IsEmpowering (map (raised_row x) rows) (map (raised_literal x) clause)
empowering-raised x rows clause (values, l, quiet, among, free, others) = (
  raised_values x values,
  raised_literal x l,
  quiet-raised x (raised_values x values) values (raises_values x values) rows quiet,
  Contains-raised x clause l among,
  value_of-raised x (raised_values x values) values (raises_values x values) l ∙ free,
  λ other there differs.
      let low = lowered_literal x clause l other there in
      subst (λ (m : Literal). value_of (raised_values x values) m ≡ False) low.2
      (value_of-raised x (raised_values x values) values (raises_values x values) low.0
      ∙ others low.0 low.1 (λ same. differs (sym low.2 ∙ ap (raised_literal x) same))),
)

-- ---- satisfied rows

module _ (x : ℕ) (over under : ℕ → Bool) (raises : RaisesTruth x over under) where
  is_true-raised : (l : Literal) → is_true over (raised_literal x l) ≡ is_true under l
  is_true-raised l = ap (λ (b : Bool). if l.positive then b else not b) (raises l.var)

  weight-raised : (terms : List Term) → weight over (map (raised_term x) terms) ≡ weight under terms
  weight-raised [] = refl
  weight-raised (t ∷ terms) =
      omega (
        arith,
        sum_by-cons (λ (u : Term). if is_true over u.lit then u.coef else 0) (raised_term x t)
            (map (raised_term x) terms),
        sum_by-cons (λ (u : Term). if is_true under u.lit then u.coef else 0) t terms,
        ap (λ (b : Bool). if b then t.coef else 0) (is_true-raised t.lit),
        weight-raised terms,
      )

  satisfies-raised : (row : Row) → Satisfies under row → Satisfies over (raised_row x row)
  satisfies-raised row met = omega (arith, weight-raised row.terms, met)

  pub SatisfiesAll-raised : (rows : List Row) → SatisfiesAll under rows → SatisfiesAll over (map (raised_row x) rows)
  SatisfiesAll-raised rows met =
      All-map (Satisfies over) (raised_row x) rows
      (All-weaker (Satisfies under) (λ (row : Row). Satisfies over (raised_row x row)) satisfies-raised rows met)

-- lower variables have the values of higher ones
pub lowered-raises : (x : ℕ) (values : ℕ → Bool) → RaisesTruth x (λ v. values (v - x)) values
lowered-raises x values = λ v. ap values (lowers v x)
