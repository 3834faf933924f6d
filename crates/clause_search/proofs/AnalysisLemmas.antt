-- The clause of an analysis follows from the rows, by the reasons of what was resolved and then the row in conflict.
use Rattle.std.proofs.Common.{◌≡◌, ◌≢◌, ℕ, zero, suc, ◌<◌, ◌≤◌, Bool, true, false, not, ◌||◌, cond, nat_lt, List, []}
use Rattle.std.proofs.Common.{◌∷◌, ◌++◌, map, Option, Some, None, Ok}
use Rattle.std.proofs.Common.{refl, inl, inr, arith, ap, sym, subst, ◌∙◌, append_assoc}
use Rattle.std.specs.Prelude.{◌⊎◌}
use Rattle.std.specs.List.{list_any}
use Rattle.std.proofs.lemmas.Bool.{cases_Bool, cases_lt, false≢true}
use Rattle.std.proofs.lemmas.Bool.Decides.{nat_tests}
use Rattle.std.proofs.lemmas.List.{map-append}
use Rattle.std.proofs.lemmas.List.Folds.{list_any-append}
use Rattle.std.proofs.lemmas.List.Sums.{fold-append}
use Rattle.rows.specs.Forcing.{all_set, set_true, with_forced}
use Rattle.rows.specs.Literals.{Literal, negate}
use Rattle.rows.specs.Rows.{Row}
use Rattle.rows.specs.Partials.{opposite_of, reach, value_of}
use Rattle.rows.specs.declared.partial.Value.{Value}
use Rattle.rows.specs.declared.partial.Value.TheVariants.{True, False, Free}
use Rattle.rows.proofs.LiteralLemmas.{negate-twice}
use Rattle.refutation.specs.Steps.Step.{Clause}
use Rattle.refutation.specs.Following.{after_row, all_free, clause_row, denied, has_opposites, is_in_conflict, judged}
use Rattle.refutation.specs.Following.{replay, row_numbered, row_unless}
use Rattle.refutation.specs.declared.verdict.Cause.{Cause}
use Rattle.refutation.specs.declared.verdict.Cause.TheVariants.{UnknownVariable}
use Rattle.clause_search.specs.Analysis.{IsAnalysis, IsMarked, IsResolved, Resolves, clause_below, hint_of}
use Rattle.clause_search.specs.Analysis.{hints_below, literal_of}
use Rattle.clause_search.specs.declared.role.Role.{Role}
use Rattle.clause_search.specs.declared.role.Role.TheVariants.{Apart, Kept, Used}
use Rattle.propagate.proofs.ValueLemmas.{value_of-other, value_of-same}
use Rattle.clause_search.proofs.ReplayLemmas.{Falls, reach-falls, reach-lost, stays_true, with_forced-stays}
use Rattle.clause_search.proofs.ReplayLemmas.{with_forced-true}

-- each kept literal is true, and each that plays a part and stands before place k
pub record Knows (n : ℕ) (lit : ℕ → Literal) (role : ℕ → Role) (k : ℕ) (values : ℕ → Value) : Type 0 where
  pub kept : (j : ℕ) → j < n → role j ≡ Kept → value_of values (lit j) ≡ True
  pub marked : (j : ℕ) → j < k → role j ≢ Apart → value_of values (lit j) ≡ True

-- ---- one row

negated_by : (b : Bool) (v : Value) → cond (not b) v (opposite_of v) ≡ True → cond b v (opposite_of v) ≡ False
negated_by true True is = cc
negated_by true False is = refl
negated_by true Free is = cc
negated_by false True is = refl
negated_by false False is = cc
negated_by false Free is = cc

-- what the negation's truth says
pub negated : (values : ℕ → Value) (l : Literal) → value_of values (negate l) ≡ True → value_of values l ≡ False
negated values l is = negated_by l.positive (values l.var) is

-- what was false is false where all that is marked is true
falls : (rows : List Row) (n : ℕ) (lit : ℕ → Literal) (role : ℕ → Role) (k : ℕ) (old new : ℕ → Value) (number : ℕ)
    (row : Row)
    → Resolves rows lit role k old number row → Knows n lit role k new → Falls old new row.terms
falls rows n lit role k old new number row resolves knows = λ t there was.
    let mark : IsMarked lit role k t.lit = resolves.marked t there was in
    negated new t.lit (subst (λ (l : Literal). value_of new l ≡ True) mark.3 (knows.marked mark.0 mark.1 mark.2))

cases_Value : (v : Value) → (v ≡ True) ⊎ ((v ≡ False) ⊎ (v ≡ Free))
cases_Value True = inl refl
cases_Value False = inr (inl refl)
cases_Value Free = inr (inr refl)

not_less : (a b : ℕ) → nat_lt a b ≡ false → b ≤ a
not_less a b test = grind (arith, nat_tests)

-- a literal that is resolved is true behind its reason's row, unless that is in conflict
resolved_true : (rows : List Row) (n : ℕ) (lit : ℕ → Literal) (reason : ℕ → ℕ) (role : ℕ → Role) (k : ℕ)
    (old new : ℕ → Value)
    → (is : IsResolved rows lit reason role k old) → Knows n lit role k new → is_in_conflict new is.row
    ≡ false → value_of (with_forced new is.row) (lit k) ≡ True
resolved_true rows n lit reason role k old new is knows calm =
    let lost : Falls old new is.row.terms = falls rows n lit role k old new (reason k) is.row is.resolves knows in
    let at_most : reach new is.row.terms ≤ reach old is.row.terms = reach-falls old new is.row.terms lost in
    let met : is.row.degree ≤ reach new is.row.terms = not_less (reach new is.row.terms) is.row.degree calm in
    subst (λ (l : Literal). value_of (with_forced new is.row) l ≡ True) is.literal
    (elim (cases_Value (value_of new is.term.lit)) [
      | inl true_now ↦ with_forced-stays new is.row is.term.lit true_now
      | inr (inl false_now) ↦
          absurd (omega (
            arith,
            met,
            is.forces.needed,
            reach-lost old new is.row.terms is.term lost is.forces.there
                is.forces.free false_now,
          ))
      | inr (inr free_now) ↦
          with_forced-true new is.row is.term is.resolves.apart is.forces.there free_now
          (omega (arith, at_most, is.forces.needed))
    ])

-- ---- all hints

-- the replay at a row that is there
replay_at : (rows : List Row) (hint : ℕ) (hints : List ℕ) (values : ℕ → Value) (row : Row) → row_numbered rows hint
    ≡ Some row
    → (is_in_conflict values row ≡ false → replay rows hints (with_forced values row) ≡ None)
    → replay rows (hint ∷ hints) values ≡ None
replay_at rows hint hints values row named later =
    ap (λ (o : Option Row). after_row o values (replay rows hints)) named
    ∙ elim (cases_Bool (is_in_conflict values row)) [
      | inl conflict ↦ ap (λ (b : Bool). cond b None (replay rows hints (with_forced values row))) conflict
      | inr calm ↦ ap (λ (b : Bool). cond b None (replay rows hints (with_forced values row))) calm ∙ later calm
    ]

-- what all values that know what stands before place k can go on from
abbrev GoesOn : List Row → ℕ → (ℕ → Literal) → (ℕ → Role) → ℕ → List ℕ → Type 0
GoesOn rows n lit role k hints = (values : ℕ → Value) → Knows n lit role k values → replay rows hints values ≡ None

knows_more : (n : ℕ) (lit : ℕ → Literal) (role : ℕ → Role) (k : ℕ) (values : ℕ → Value) → Knows n lit role k values
    → (role k ≢ Apart → value_of values (lit k) ≡ True) → Knows n lit role (suc k) values
knows_more n lit role k values knows here = record {
  kept = knows.kept;
  marked = λ j below part.
      elim (cases_lt j k) [
        | inl before ↦ knows.marked j before part
        | inr past ↦
            let same : k ≡ j = omega (arith, below, past) in
            subst (λ (i : ℕ). role i ≢ Apart → value_of values (lit i) ≡ True) same here part
      ];
}

used_step : (rows : List Row) (n : ℕ) (lit : ℕ → Literal) (reason : ℕ → ℕ) (role : ℕ → Role) (k : ℕ) (old : ℕ → Value)
    (tail : List ℕ)
    → IsResolved rows lit reason role k old → GoesOn rows n lit role (suc k) tail
    → GoesOn rows n lit role k (reason k ∷ tail)
used_step rows n lit reason role k old tail is later = λ values knows.
    replay_at rows (reason k) tail values is.row is.resolves.named (λ calm.
    later (with_forced values is.row)
    (knows_more n lit role k (with_forced values is.row)
    (record {
      kept = λ j within kept. with_forced-stays values is.row (lit j) (knows.kept j within kept);
      marked = λ j below part. with_forced-stays values is.row (lit j) (knows.marked j below part);
    })
    (λ part. resolved_true rows n lit reason role k old values is knows calm)))

-- one place more, by the part that it plays
step_by : (rows : List Row) (n : ℕ) (lit : ℕ → Literal) (reason : ℕ → ℕ) (role : ℕ → Role) (k : ℕ) (old : ℕ → Value)
    (tail : List ℕ) (r : Role) → role k ≡ r → k < n
    → (role k ≡ Used → IsResolved rows lit reason role k old) → GoesOn rows n lit role (suc k) tail
    → GoesOn rows n lit role k (hint_of (reason k) r ++ tail)
step_by rows n lit reason role k old tail Apart is within used later = λ values knows.
    later values (knows_more n lit role k values knows (λ part. absurd (part is)))
step_by rows n lit reason role k old tail Kept is within used later = λ values knows.
    later values (knows_more n lit role k values knows (λ part. knows.kept k within is))
step_by rows n lit reason role k old tail Used is within used later =
    used_step rows n lit reason role k old tail (used is) later

hints_from : (rows : List Row) (n : ℕ) (lit : ℕ → Literal) (reason : ℕ → ℕ) (role : ℕ → Role) (before : ℕ → ℕ → Value)
    → ((k : ℕ) → k < n → role k ≡ Used → IsResolved rows lit reason role k (before k)) → (k : ℕ) → k ≤ n
    → (tail : List ℕ) → GoesOn rows n lit role k tail
    → GoesOn rows n lit role 0 (hints_below reason role k ++ tail)
hints_from rows n lit reason role before used zero within tail later = later
hints_from rows n lit reason role before used (suc k) within tail later =
    subst (λ (hints : List ℕ). GoesOn rows n lit role 0 hints)
    (sym (append_assoc (hints_below reason role k) (hint_of (reason k) (role k)) tail))
    (hints_from rows n lit reason role before used k (omega (arith, within)) (hint_of (reason k) (role k) ++ tail)
    (step_by rows n lit reason role k (before k) tail (role k) refl (omega (arith, within))
    (used k (omega (arith, within))) later))

-- the hints lead to the conflict from all values at which the kept literals are true
pub analysis_replay : (rows : List Row) (n : ℕ) (lit : ℕ → Literal) (reason : ℕ → ℕ) (role : ℕ → Role)
    (before : ℕ → ℕ → Value) (number : ℕ)
    → IsAnalysis rows n lit reason role before number → (values : ℕ → Value)
    → ((j : ℕ) → j < n → role j ≡ Kept → value_of values (lit j) ≡ True)
    → replay rows (hints_below reason role n ++ number ∷ []) values ≡ None
analysis_replay rows n lit reason role before number is values kept =
    hints_from rows n lit reason role before is.used n (omega arith) (number ∷ [])
    (λ w knows. replay_at rows number [] w is.row is.resolves.named (λ calm.
    absurd (omega (
      arith,
      is.conflict,
      not_less (reach w is.row.terms) is.row.degree calm,
      reach-falls (before n) w is.row.terms (falls rows n lit role n (before n) w number is.row is.resolves knows),
    ))))
    values (record { kept = kept; marked = λ j below part. absurd (omega (arith, below)) })

-- ---- the clause made false

-- the values at which the clause of the first n places is false
abbrev denied_below : (ℕ → Literal) → (ℕ → Role) → ℕ → ℕ → Value
denied_below lit role k = denied (clause_below lit role k)

denied-more : (lit : ℕ → Literal) (role : ℕ → Role) (k : ℕ)
    → denied_below lit role (suc k) ≡ all_set (denied_below lit role k) (map negate (literal_of (lit k) (role k)))
denied-more lit role k =
    ap (λ (ls : List Literal). all_set all_free ls)
    (map-append negate (clause_below lit role k) (literal_of (lit k) (role k)))
    ∙ fold-append set_true all_free (map negate (clause_below lit role k)) (map negate (literal_of (lit k) (role k)))

-- the values at which the clause of one place more is false, by the part that the place plays
one_stays : (values : ℕ → Value) (l m : Literal) (r : Role) → value_of values m
    ≡ True → value_of (all_set values (map negate (literal_of l r))) m ≡ True
one_stays values l m Apart is = is
one_stays values l m Used is = is
one_stays values l m Kept is = stays_true values (negate (negate l)) m is

one_other : (values : ℕ → Value) (l m : Literal) (r : Role) → m.var ≢ l.var → value_of values m
    ≡ Free → value_of (all_set values (map negate (literal_of l r))) m ≡ Free
one_other values l m Apart other is = is
one_other values l m Used other is = is
one_other values l m Kept other is = value_of-other values (negate (negate l)) m other ∙ is

one_kept : (values : ℕ → Value) (l : Literal) (r : Role) → r ≡ Kept → value_of values l
    ≡ Free → value_of (all_set values (map negate (literal_of l r))) l ≡ True
one_kept values l Apart is free = cc
one_kept values l Used is free = cc
one_kept values l Kept is free =
    ap (λ (m : Literal). value_of (set_true values m) l) (negate-twice l) ∙ value_of-same values l free

-- the literals have different variables
abbrev pub AreFresh : ℕ → (ℕ → Literal) → Type 0
AreFresh n lit = (j k : ℕ) → j < k → k < n → (lit j).var ≢ (lit k).var

-- a literal of no variable before place k is free
denied-free : (n : ℕ) (lit : ℕ → Literal) (role : ℕ → Role) (k : ℕ) (m : Literal)
    → ((j : ℕ) → j < k → m.var ≢ (lit j).var) → value_of (denied_below lit role k) m ≡ Free
denied-free n lit role zero m other = free_by m.positive
  where
    free_by : (b : Bool) → cond b Free (opposite_of Free) ≡ Free
    free_by true = refl
    free_by false = refl
denied-free n lit role (suc k) m other =
    ap (λ (w : ℕ → Value). value_of w m) (denied-more lit role k)
    ∙ one_other (denied_below lit role k) (lit k) m (role k) (other k (omega arith))
    (denied-free n lit role k m (λ j below. other j (omega (arith, below))))

denied-kept : (n : ℕ) (lit : ℕ → Literal) (role : ℕ → Role) → AreFresh n lit → (k : ℕ) → k ≤ n → (j : ℕ) → j < k
    → role j ≡ Kept
    → value_of (denied_below lit role k) (lit j) ≡ True
denied-kept n lit role fresh zero within j below kept = absurd (omega (arith, below))
denied-kept n lit role fresh (suc k) within j below kept =
    ap (λ (w : ℕ → Value). value_of w (lit j)) (denied-more lit role k)
    ∙ elim (cases_lt j k) [
      | inl before ↦
          one_stays (denied_below lit role k) (lit k) (lit j) (role k)
          (denied-kept n lit role fresh k (omega (arith, within)) j before kept)
      | inr past ↦
          let same : k ≡ j = omega (arith, below, past) in
          subst (λ (i : ℕ). role i
          ≡ Kept → value_of (all_set (denied_below lit role k) (map negate (literal_of (lit k) (role k)))) (lit i)
          ≡ True) same
          (λ is. one_kept (denied_below lit role k) (lit k) (role k) is
          (denied-free n lit role k (lit k)
          (λ i before same_var. fresh i k before (omega (arith, within)) (sym same_var)))) kept
    ]

-- ---- the step

known_by : (vars : ℕ) (l : Literal) (r : Role) → l.var ≤ vars → list_any (λ m. nat_lt vars m.var) (literal_of l r)
    ≡ false
known_by vars l Apart known = refl
known_by vars l Used known = refl
known_by vars l Kept known = ap (λ (b : Bool). b || false) (not_above vars l.var known)
  where
    not_above : (a b : ℕ) → b ≤ a → nat_lt a b ≡ false
    not_above a b at_most = grind (arith, nat_tests)

known_below : (vars n : ℕ) (lit : ℕ → Literal) (role : ℕ → Role) → ((j : ℕ) → j < n → (lit j).var ≤ vars) → (k : ℕ)
    → k ≤ n
    → list_any (λ m. nat_lt vars m.var) (clause_below lit role k) ≡ false
known_below vars n lit role known zero within = refl
known_below vars n lit role known (suc k) within =
    list_any-append (λ (m : Literal). nat_lt vars m.var) (clause_below lit role k) (literal_of (lit k) (role k))
    ∙ ap (λ (b : Bool). b || list_any (λ m. nat_lt vars m.var) (literal_of (lit k) (role k)))
    (known_below vars n lit role known k (omega (arith, within)))
    ∙ known_by vars (lit k) (role k) (known k (omega (arith, within)))

no_fault : (any opposites : Bool) (found : Option Cause)
    → any ≡ false → found ≡ None → cond any (Some UnknownVariable) (cond opposites None found) ≡ None
no_fault true opposites found none is = absurd (false≢true (sym none))
no_fault false true found none is = refl
no_fault false false found none is = is

-- the clause of what is kept follows by the hints
pub analysis_follows : (rows : List Row) (vars n : ℕ) (lit : ℕ → Literal) (reason : ℕ → ℕ) (role : ℕ → Role)
    (before : ℕ → ℕ → Value) (number : ℕ)
    → IsAnalysis rows n lit reason role before number → AreFresh n lit → ((j : ℕ) → j < n → (lit j).var ≤ vars)
    → judged rows vars (Clause (clause_below lit role n) (hints_below reason role n ++ number ∷ []))
    ≡ Ok (clause_row (clause_below lit role n))
analysis_follows rows vars n lit reason role before number is fresh known =
    ap (λ (fault : Option Cause). row_unless fault (clause_row (clause_below lit role n)))
    (no_fault (list_any (λ l. nat_lt vars l.var) (clause_below lit role n)) (has_opposites (clause_below lit role n))
    (replay rows (hints_below reason role n ++ number ∷ []) (denied (clause_below lit role n)))
    (known_below vars n lit role known n (omega arith))
    (analysis_replay rows n lit reason role before number is (denied (clause_below lit role n))
    (λ j within kept. denied-kept n lit role fresh n (omega arith) j within kept)))
