-- An accepted log refutes the rows: values that meet all rows meet each step's row, and none meets the empty clause.
use Rattle.std.proofs.Common.{◌≡◌, ℕ, ◌+◌, ◌≤◌, ◌==◌, nat_lt, ◌&&◌, ◌||◌, Bool, true, false, not, cond}
use Rattle.std.proofs.Common.{List, [], ◌∷◌, ◌++◌, map, length, Option, Some, None, inl, inr}
use Rattle.std.proofs.Common.{refl, arith, ap, sym, subst, ◌∙◌}
use Rattle.std.specs.Prelude.{Result, Ok, Err, IfOk, IfSome}
use Rattle.std.specs.Bool.{beq}
use Rattle.std.specs.List.{All, filter, list_any}
use Rattle.std.proofs.lemmas.Bool.{cases_Bool}
use Rattle.std.proofs.lemmas.Bool.Decides.{nat_tests}
use Rattle.std.proofs.lemmas.List.Elements.{All-nil, All-cons, All-push}
use Rattle.std.proofs.lemmas.List.Sums.{sum_by-cons}
use Rattle.rows.specs.Literals.{Literal}
use Rattle.rows.specs.Rows.{Row, Satisfies, SatisfiesAll, is_true, weight}
use Rattle.rows.specs.Cardinality.{at_least, unit}
use Rattle.rows.specs.Forcing.{with_forced}
use Rattle.rows.specs.declared.lit.Term.{Term}
use Rattle.rows.specs.declared.partial.Value.{Value}
use Rattle.rows.specs.Sums.{is_same}
use Rattle.refutation.specs.Steps.{Step}
use Rattle.refutation.specs.Steps.Step.{Clause, Linear}
use Rattle.refutation.specs.Following.{after_row, clause_row, denied, distinct, fault_of, has_opposites}
use Rattle.refutation.specs.Following.{is_in_conflict, judged, no_demand, replay, row_numbered, row_unless}
use Rattle.refutation.specs.Verdict.{ends_empty, fault_or, first_fault, is_empty_clause, verdict_by, verdict_of}
use Rattle.refutation.specs.declared.verdict.Cause.{Cause}
use Rattle.refutation.specs.declared.verdict.Cause.TheVariants.{UnknownVariable}
use Rattle.refutation.specs.declared.verdict.Verdict.TheVariants.{Accepted}
use Rattle.refutation_check.specs.Soundness.{AcceptedLogsRefute}
use Rattle.refutation_check.proofs.AgreeLemmas.{Agree, Agree-denied, Agree-with_forced, conflict_refutes}
use Rattle.refutation_check.proofs.SumLemmas.{linear_holds, row_numbered-holds}

-- ---- the replay

after_refutes : (values : ℕ → Bool) (found : Option Row) → IfSome found (Satisfies values) → (partial : ℕ → Value)
    → Agree values partial → (rest : (ℕ → Value) → Option Cause)
    → ((next : ℕ → Value) → Agree values next → rest next ≡ None → ⊥) → after_row found partial rest ≡ None → ⊥
after_refutes values None holds partial agree rest go_on ends = cc
after_refutes values (Some row) holds partial agree rest go_on ends =
    elim (cases_Bool (is_in_conflict partial row)) [
      | inl conflict ↦ conflict_refutes values partial agree row conflict holds
      | inr quiet ↦
          go_on (with_forced partial row) (Agree-with_forced values partial row agree holds)
          (sym (ap (λ (b : Bool). cond b None (rest (with_forced partial row))) quiet) ∙ ends)
    ]

-- no values that meet all rows agree with what a replay begins with that comes to a conflict
replay_refutes : (values : ℕ → Bool) (rows : List Row) → SatisfiesAll values rows → (hints : List ℕ)
    → (partial : ℕ → Value) → Agree values partial → replay rows hints partial ≡ None → ⊥
replay_refutes values rows all [] partial agree ends = cc
replay_refutes values rows all (hint ∷ hints) partial agree ends =
    after_refutes values (row_numbered rows hint) (row_numbered-holds (Satisfies values) rows hint all) partial agree
    (replay rows hints) (λ next. replay_refutes values rows all hints next) ends

-- ---- the row of a clause

any-cond : {X : Type 0} (test : X → Bool) (choice : Bool) (xs ys : List X)
    → list_any test (cond choice xs ys) ≡ cond choice (list_any test xs) (list_any test ys)
any-cond test true xs ys = refl
any-cond test false xs ys = refl

kept_step : (passes keeps others kept : Bool) → (keeps ≡ false → passes ≡ false)
    → (others ≡ true → kept ≡ true) → passes || others ≡ true → cond keeps (passes || kept) kept ≡ true
kept_step true true others kept fails go_on any = refl
kept_step true false others kept fails go_on any = absurd (let e : true ≡ false = fails refl in cc)
kept_step false true others kept fails go_on any = go_on any
kept_step false false others kept fails go_on any = go_on any

-- a filter that drops only what fails leaves what passes
any-filter : {X : Type 0} (test keep : X → Bool) → ((x : X) → keep x ≡ false → test x ≡ false) → (xs : List X)
    → list_any test xs ≡ true → list_any test (filter keep xs) ≡ true
any-filter test keep fails [] any = any
any-filter test keep fails (x ∷ xs) any =
    any-cond test (keep x) (x ∷ filter keep xs) (filter keep xs)
    ∙ kept_step (test x) (keep x) (list_any test xs) (list_any test (filter keep xs)) (fails x)
    (any-filter test keep fails xs) any

same_var : (v w : ℕ) (same : Bool) → not (v == w && same) ≡ false → v ≡ w
same_var v w same is = grind (arith, nat_tests)

same_sign : (one : Bool) (s t : Bool) → not (one && beq s t) ≡ false → s ≡ t
same_sign true true true is = refl
same_sign true true false is = is
same_sign true false true is = sym is
same_sign true false false is = refl
same_sign false s t is = absurd (cc)

-- a literal is as true as the same literal
is_true-same : (values : ℕ → Bool) (l m : Literal) → not (is_same l m) ≡ false → is_true values l ≡ is_true values m
is_true-same values l m is =
    let var : l.var ≡ m.var = same_var l.var m.var (beq l.positive m.positive) is in
    let sign : l.positive ≡ m.positive = same_sign (l.var == m.var) l.positive m.positive is in
    ap (λ (v : ℕ). cond l.positive (values v) (not (values v))) var
    ∙ ap (λ (s : Bool). cond s (values m.var) (not (values m.var))) sign

distinct_step : (here others kept : Bool) → (others ≡ true → here ≡ false → kept ≡ true) → here || others ≡ true
    → here || kept ≡ true
distinct_step true others kept go_on any = refl
distinct_step false others kept go_on any = go_on any refl

-- a clause with a true literal has one among its distinct literals
any-distinct : (values : ℕ → Bool) (clause : List Literal) → list_any (is_true values) clause ≡ true
    → list_any (is_true values) (distinct clause) ≡ true
any-distinct values [] any = any
any-distinct values (l ∷ clause) any =
    distinct_step (is_true values l) (list_any (is_true values) clause)
    (list_any (is_true values) (filter (λ m. not (is_same l m)) (distinct clause)))
    (λ others here.
    any-filter (is_true values) (λ m. not (is_same l m))
    (λ m same. sym (is_true-same values l m same) ∙ here) (distinct clause) (any-distinct values clause others))
    any

first_counts : (here others : Bool) (rest : ℕ) → (others ≡ true → 1 ≤ rest) → here || others ≡ true
    → 1 ≤ cond here 1 0 + rest
first_counts true others rest go_on any = omega arith
first_counts false others rest go_on any = omega (arith, go_on any)

-- at least 1 of some literals, of which one is true
weight-any : (values : ℕ → Bool) (literals : List Literal) → list_any (is_true values) literals ≡ true
    → 1 ≤ weight values (map unit literals)
weight-any values [] any = absurd (cc)
weight-any values (l ∷ literals) any =
    omega (
      arith,
      sum_by-cons (λ (t : Term). cond (is_true values t.lit) t.coef 0) (unit l) (map unit literals),
      first_counts (is_true values l) (list_any (is_true values) literals) (weight values (map unit literals))
          (weight-any values literals) any,
    )

neither : (a b : Bool) → a || b ≡ false → (a ≡ false) × (b ≡ false)
neither true b is = absurd (cc)
neither false b is = (refl, is)

none_true : {X : Type 0} (test : X → Bool) (xs : List X) → list_any test xs ≡ false → All (λ x. test x ≡ false) xs
none_true {X} test [] none = All-nil (λ x. test x ≡ false)
none_true {X} test (x ∷ xs) none =
    let parts : (test x ≡ false) × (list_any test xs ≡ false) = neither (test x) (list_any test xs) none in
    All-cons (λ y. test y ≡ false) x xs parts.0 (none_true test xs parts.1)

replayed : (unknown opposites : Bool) (found : Option Cause)
    → cond unknown (Some UnknownVariable) (cond opposites None found) ≡ None → opposites ≡ false → found ≡ None
replayed true opposites found follows is = absurd (cc)
replayed false true found follows is = absurd (cc)
replayed false false found follows is = follows

-- a clause that follows has a true literal, where it has no opposites
true_literal : (values : ℕ → Bool) (rows : List Row) → SatisfiesAll values rows → (vars : ℕ)
    → (clause : List Literal) (hints : List ℕ) → fault_of rows vars clause hints ≡ None
    → has_opposites clause ≡ false → list_any (is_true values) clause ≡ true
true_literal values rows all vars clause hints follows plain =
    elim (cases_Bool (list_any (is_true values) clause)) [
      | inl any ↦ any
      | inr none ↦
          absurd
          (replay_refutes values rows all hints (denied clause)
          (Agree-denied values clause (none_true (is_true values) clause none))
          (replayed (list_any (λ l. nat_lt vars l.var) clause) (has_opposites clause)
          (replay rows hints (denied clause)) follows plain))
    ]

-- the row of a clause that follows holds where the rows hold
clause_holds : (values : ℕ → Bool) (rows : List Row) → SatisfiesAll values rows → (vars : ℕ)
    → (clause : List Literal) (hints : List ℕ) → fault_of rows vars clause hints ≡ None
    → Satisfies values (clause_row clause)
clause_holds values rows all vars clause hints follows =
    let row = λ (b : Bool). cond b no_demand (at_least 1 (distinct clause)) in
    elim (cases_Bool (has_opposites clause)) [
      | inl opposed ↦
          subst (λ (b : Bool). Satisfies values (row b)) (sym opposed)
          (let met : Satisfies values no_demand = omega arith in met)
      | inr plain ↦
          subst (λ (b : Bool). Satisfies values (row b)) (sym plain)
          (weight-any values (distinct clause)
          (any-distinct values clause (true_literal values rows all vars clause hints follows plain)))
    ]

-- ---- steps

unless_holds : (P : Row → Type 0) (fault : Option Cause) (row : Row) → (fault ≡ None → P row)
    → IfOk (row_unless fault row) P
unless_holds P None row holds = holds refl
unless_holds P (Some cause) row holds = tt

-- the row of a step that follows holds where the rows hold
pub judged_holds : (values : ℕ → Bool) (rows : List Row) → SatisfiesAll values rows → (vars : ℕ) (step : Step)
    → IfOk (judged rows vars step) (Satisfies values)
judged_holds values rows all vars (Clause clause hints) =
    unless_holds (Satisfies values) (fault_of rows vars clause hints) (clause_row clause)
    (clause_holds values rows all vars clause hints)
judged_holds values rows all vars (Linear parts divisor) = linear_holds values rows all parts divisor

-- no values meet the empty clause
empty_is_false : (values : ℕ → Bool) (rows : List Row) (vars : ℕ) (step : Step) → is_empty_clause step ≡ true
    → IfOk (judged rows vars step) (λ row. Satisfies values row → ⊥)
empty_is_false values rows vars (Clause [] hints) empty =
    unless_holds (λ row. Satisfies values row → ⊥) (fault_of rows vars [] hints) (clause_row [])
    (λ follows met. absurd (let none : 1 ≤ 0 = met in omega arith))
empty_is_false values rows vars (Clause (l ∷ ls) hints) empty = absurd (cc)
empty_is_false values rows vars (Linear parts divisor) empty = absurd (cc)

-- a step without a fault has a row
ok_from : (step : ℕ) (found : Result Row Cause) (later : Row → Option (ℕ × Cause)) → fault_or step found later ≡ None
    → (row : Row) × (found ≡ Ok row) × (later row ≡ None)
ok_from step (Ok row) later none = (row, refl, none)
ok_from step (Err cause) later none = absurd (cc)

-- steps that follow one after another from rows, and end with the empty clause
steps_refute : (values : ℕ → Bool) (steps : List Step) (rows : List Row) (vars n : ℕ) → SatisfiesAll values rows
    → first_fault rows vars n steps ≡ None → ends_empty steps ≡ true → ⊥
steps_refute values [] rows vars n all follows ends = absurd (cc)
steps_refute values (step ∷ []) rows vars n all follows ends =
    let found = ok_from (n + 1) (judged rows vars step)
    (λ row. first_fault (rows ++ row ∷ []) vars (n + 1) []) follows in
    subst (λ (r : Result Row Cause). IfOk r (λ row. Satisfies values row → ⊥)) found.1
    (empty_is_false values rows vars step ends)
    (subst (λ (r : Result Row Cause). IfOk r (Satisfies values)) found.1 (judged_holds values rows all vars step))
steps_refute values (step ∷ next ∷ steps) rows vars n all follows ends =
    let found = ok_from (n + 1) (judged rows vars step)
    (λ row. first_fault (rows ++ row ∷ []) vars (n + 1) (next ∷ steps)) follows in
    steps_refute values (next ∷ steps) (rows ++ found.0 ∷ []) vars (n + 1)
    (All-push (Satisfies values) rows found.0 all
    (subst (λ (r : Result Row Cause). IfOk r (Satisfies values)) found.1 (judged_holds values rows all vars step)))
    found.2 ends

accepted_parts : (fault : Option (ℕ × Cause)) (ends : Bool) (n : ℕ) → verdict_by fault ends n ≡ Accepted
    → (fault ≡ None) × (ends ≡ true)
accepted_parts None true n accepted = (refl, refl)
accepted_parts None false n accepted = absurd (cc)
accepted_parts (Some (step, cause)) ends n accepted = absurd (cc)

pub accepted_logs_refute : AcceptedLogsRefute
accepted_logs_refute rows vars steps accepted values all =
    let parts : (first_fault rows vars 0 steps ≡ None) × (ends_empty steps ≡ true) =
    accepted_parts (first_fault rows vars 0 steps) (ends_empty steps) (length steps) accepted in
    steps_refute values steps rows vars 0 all parts.0 parts.1

-- where whatever is acceptable gives values that meet all rows, an accepted log leaves nothing acceptable
pub nothing_accepted : {X : Type 0} (IsAcceptable : X → Type 0) (values_of : X → ℕ → Bool) (rows : List Row)
    → ((x : X) → IsAcceptable x → SatisfiesAll (values_of x) rows) → (vars : ℕ) (steps : List Step)
    → verdict_of rows vars steps ≡ Accepted → (x : X) → IsAcceptable x → ⊥
nothing_accepted IsAcceptable values_of rows faithful vars steps accepted x acceptable =
    accepted_logs_refute rows vars steps accepted (values_of x) (faithful x acceptable)
