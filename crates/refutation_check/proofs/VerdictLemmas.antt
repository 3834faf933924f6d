-- Steps that are judged one after another come to the verdict on the log.
use Rattle.std.proofs.Common.{◌≡◌, ℕ, ◌+◌, ◌==◌, ◌&&◌, Bool, true, false, cond, List, [], ◌∷◌, ◌++◌, length, map}
use Rattle.std.proofs.Common.{Option, Some, None, append_assoc, refl, arith, ap, sym, ◌∙◌, length-append}
use Rattle.std.specs.Prelude.{Result, Ok, Err, IfOk}
use Rattle.std.specs.List.{fold}
use Rattle.std.proofs.lemmas.List.{append-nil, map-append}
use Rattle.rows.specs.Literals.{Literal}
use Rattle.rows.specs.Rows.{Row}
use Rattle.rows.specs.Cardinality.{at_least}
use Rattle.refutation.specs.Steps.{Step, kind_of}
use Rattle.refutation.specs.Steps.Step.{Clause, Linear}
use Rattle.refutation.specs.Following.{add_parts, clause_row, distinct, fault_of, has_opposites, judged, no_demand}
use Rattle.refutation.specs.Following.{row_of, row_unless}
use Rattle.refutation.specs.Verdict.{ends_empty, fault_or, first_fault, is_empty_clause, verdict_by}
use Rattle.refutation.specs.declared.verdict.Cause.{Cause}
use Rattle.refutation.specs.declared.verdict.Verdict.{Verdict}
use Rattle.rows.specs.Sums.{Totals, no_totals}
use Rattle.refutation_check.specs.Judged.{Judged, JudgedStep, StepsGiveVerdict, after_step, are_none, ends_false}
use Rattle.refutation_check.specs.Judged.{is_falsum, verdict_so_far, with_step}

-- ---- the empty clause

-- steps that followed over rows
abbrev going : List Row → ℕ → List JudgedStep → Judged
going rows vars steps = record { rows = rows; vars = vars; steps = steps; rejection = None }

abbrev step_of : Step → Row → JudgedStep
step_of step row = record { row = row; kind = kind_of step }

false_row : (opposed : Bool) (l : Literal) (ls : List Literal)
    → (let row : Row = cond opposed no_demand (at_least 1 (distinct (l ∷ ls))) in are_none row.terms && row.degree == 1)
    ≡ false
false_row true l ls = refl
false_row false l ls = refl

unless : (P : Row → Type 0) (fault : Option Cause) (row : Row) → P row → IfOk (row_unless fault row) P
unless P None row holds = holds
unless P (Some cause) row holds = tt

of_sum : (P : Row → Type 0) (divisor : ℕ) (sum : Result Totals Cause) → ((row : Row) → P row)
    → IfOk (row_of divisor sum) P
of_sum P divisor (Ok sum) holds = holds _
of_sum P divisor (Err cause) holds = tt

-- the row of a step is that of the empty clause where the step is that clause
judged-falsum : (rows : List Row) (vars : ℕ) (step : Step)
    → IfOk (judged rows vars step) (λ row. is_falsum (step_of step row) ≡ is_empty_clause step)
judged-falsum rows vars (Clause [] hints) =
    unless (λ row. is_falsum (step_of (Clause [] hints) row) ≡ true) (fault_of rows vars [] hints) (clause_row []) refl
judged-falsum rows vars (Clause (l ∷ ls) hints) =
    unless (λ row. is_falsum (step_of (Clause (l ∷ ls) hints) row) ≡ false) (fault_of rows vars (l ∷ ls) hints)
    (clause_row (l ∷ ls)) (false_row (has_opposites (l ∷ ls)) l ls)
judged-falsum rows vars (Linear parts divisor) =
    of_sum (λ row. is_falsum (step_of (Linear parts divisor) row) ≡ false) divisor (add_parts rows parts no_totals)
    (λ row. refl)

-- ---- one step more

pub ends_false-push : (steps : List JudgedStep) (s : JudgedStep) → ends_false (steps ++ s ∷ []) ≡ is_falsum s
ends_false-push [] s = refl
ends_false-push (t ∷ []) s = refl
ends_false-push (t ∷ u ∷ steps) s = ends_false-push (u ∷ steps) s

-- how it ends where these steps came and those follow
abbrev ends_from : List JudgedStep → List Step → Bool
ends_from came [] = ends_false came
ends_from came (step ∷ steps) = ends_empty (step ∷ steps)

ends_from-push : (came : List JudgedStep) (s : JudgedStep) (step : Step) (steps : List Step)
    → is_falsum s ≡ is_empty_clause step → ends_from (came ++ s ∷ []) steps ≡ ends_empty (step ∷ steps)
ends_from-push came s step [] same = ends_false-push came s ∙ same
ends_from-push came s step (next ∷ steps) same = refl

pub rows-push : (rows : List Row) (came : List JudgedStep) (s : JudgedStep)
    → rows ++ map (λ j. j.row) (came ++ s ∷ []) ≡ (rows ++ map (λ j. j.row) came) ++ s.row ∷ []
rows-push rows came s =
    ap (λ (more : List Row). rows ++ more) (map-append (λ j. j.row) came (s ∷ []))
    ∙ sym (append_assoc rows (map (λ j. j.row) came) (s.row ∷ []))

-- behind a rejection nothing is judged
stays : (rows : List Row) (vars : ℕ) (came : List JudgedStep) (rejection : ℕ × Cause) (steps : List Step)
    → fold after_step (record { rows = rows; vars = vars; steps = came; rejection = Some rejection }) steps
    ≡ record { rows = rows; vars = vars; steps = came; rejection = Some rejection }
stays rows vars came rejection [] = refl
stays rows vars came rejection (step ∷ steps) = stays rows vars came rejection steps

-- what the rest of a log comes to
abbrev outcome : List Row → ℕ → List JudgedStep → List Step → Verdict
outcome rows vars came steps =
    verdict_by (first_fault (rows ++ map (λ j. j.row) came) vars (length came) steps) (ends_from came steps)
    (length came + length steps)

-- a step that followed stands among those that came
outcome-push : (rows : List Row) (vars : ℕ) (came : List JudgedStep) (s : JudgedStep) (step : Step) (steps : List Step)
    → is_falsum s ≡ is_empty_clause step
    → outcome rows vars (came ++ s ∷ []) steps
    ≡ verdict_by (first_fault ((rows ++ map (λ j. j.row) came) ++ s.row ∷ []) vars (length came + 1) steps)
    (ends_empty (step ∷ steps)) (length came + length (step ∷ steps))
outcome-push rows vars came s step steps same =
    let one_more : length (came ++ s ∷ []) ≡ length came + 1 = length-append came (s ∷ []) in
    let in_all : length (came ++ s ∷ []) + length steps ≡ length came + length (step ∷ steps) = omega arith in
    ap (λ (all : List Row). verdict_by (first_fault all vars (length (came ++ s ∷ [])) steps)
    (ends_from (came ++ s ∷ []) steps) (length (came ++ s ∷ []) + length steps)) (rows-push rows came s)
    ∙ (ap (λ (n : ℕ). verdict_by (first_fault ((rows ++ map (λ j. j.row) came) ++ s.row ∷ []) vars n steps)
    (ends_from (came ++ s ∷ []) steps) (length (came ++ s ∷ []) + length steps)) one_more
    ∙ (ap (λ (ends : Bool). verdict_by
    (first_fault ((rows ++ map (λ j. j.row) came) ++ s.row ∷ []) vars (length came + 1) steps)
    ends (length (came ++ s ∷ []) + length steps)) (ends_from-push came s step steps same)
    ∙ ap (λ (n : ℕ). verdict_by
    (first_fault ((rows ++ map (λ j. j.row) came) ++ s.row ∷ []) vars (length came + 1) steps)
    (ends_empty (step ∷ steps)) n) in_all))

after_judged : (rows : List Row) (vars : ℕ) (came : List JudgedStep) (step : Step) (steps : List Step)
    → (found : Result Row Cause) → IfOk found (λ row. is_falsum (step_of step row) ≡ is_empty_clause step)
    → ((next : List JudgedStep)
    → verdict_so_far (fold after_step (going rows vars next) steps) ≡ outcome rows vars next steps)
    → verdict_so_far (fold after_step (with_step (going rows vars came) (kind_of step) found) steps)
    ≡ verdict_by
    (fault_or (length came + 1) found
    (λ row. first_fault ((rows ++ map (λ j. j.row) came) ++ row ∷ []) vars (length came + 1) steps))
    (ends_empty (step ∷ steps)) (length came + length (step ∷ steps))
after_judged rows vars came step steps (Ok row) same go_on =
    go_on (came ++ step_of step row ∷ []) ∙ outcome-push rows vars came (step_of step row) step steps same
after_judged rows vars came step steps (Err cause) same go_on =
    ap (λ (state : Judged). verdict_so_far state) (stays rows vars came (length came + 1, cause) steps)

last_one : (came : List JudgedStep) → verdict_by None (ends_false came) (length came)
    ≡ verdict_by None (ends_false came) (length came + 0)
last_one came =
    let same : length came ≡ length came + 0 = omega arith in
    ap (λ (n : ℕ). verdict_by None (ends_false came) n) same

steps-outcome : (rows : List Row) (vars : ℕ) (steps : List Step) (came : List JudgedStep)
    → verdict_so_far (fold after_step (going rows vars came) steps) ≡ outcome rows vars came steps
steps-outcome rows vars [] came = last_one came
steps-outcome rows vars (step ∷ steps) came =
    after_judged rows vars came step steps (judged (rows ++ map (λ j. j.row) came) vars step)
    (judged-falsum (rows ++ map (λ j. j.row) came) vars step) (steps-outcome rows vars steps)

ends_from-nil : (steps : List Step) → ends_from [] steps ≡ ends_empty steps
ends_from-nil [] = refl
ends_from-nil (step ∷ steps) = refl

pub steps_give_verdict : StepsGiveVerdict
steps_give_verdict rows vars steps =
    let in_all : 0 + length steps ≡ length steps = omega arith in
    steps-outcome rows vars steps []
    ∙ (ap (λ (all : List Row). verdict_by (first_fault all vars 0 steps) (ends_from [] steps) (0 + length steps))
    (append-nil rows)
    ∙ (ap (λ (ends : Bool). verdict_by (first_fault rows vars 0 steps) ends (0 + length steps))
    (ends_from-nil steps)
    ∙ ap (λ (n : ℕ). verdict_by (first_fault rows vars 0 steps) (ends_empty steps) n) in_all))
