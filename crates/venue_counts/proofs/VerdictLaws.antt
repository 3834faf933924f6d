-- A log of two steps is accepted where the sum that it begins with is in conflict.
use Rattle.std.proofs.Common.{◌≡◌, ℕ, suc, ◌+◌, ◌≤◌, Bool, true, List, [], ◌∷◌, ◌++◌, length, cond, Option, Some, None}
use Rattle.std.proofs.Common.{refl, arith, ap, ◌∙◌}
use Rattle.std.specs.Prelude.{Result, Ok}
use Rattle.std.specs.List.{slice_get, sum_by}
use Rattle.rows.specs.Rows.{Row}
use Rattle.rows.specs.Forcing.{with_forced}
use Rattle.rows.specs.Sums.{Totals, cancelled, no_totals, weight_of, widest}
use Rattle.refutation.specs.Following.{add_parts, after_row, all_free, is_in_conflict, judged, replay, row_numbered}
use Rattle.refutation.specs.Following.{row_of}
use Rattle.refutation.specs.Following.{row_unless}
use Rattle.refutation.specs.Steps.{Step}
use Rattle.refutation.specs.Steps.Step.{Clause, Linear}
use Rattle.refutation.specs.Verdict.{fault_or, first_fault, verdict_by, verdict_of}
use Rattle.refutation.specs.declared.step.Part.{Part}
use Rattle.refutation.specs.declared.verdict.Cause.{Cause}
use Rattle.refutation.specs.declared.verdict.Verdict.TheVariants.{Accepted}
use Rattle.venue_counts.specs.CountLogs.{AddsUp}
use Rattle.venue_counts.proofs.AddedLemmas.{all_added, divided-one, parts-added, terms_of}

-- the row behind these
last_row : (rows : List Row) (row : Row) → slice_get (rows ++ row ∷ []) (length rows) ≡ Some row
last_row [] row = refl
last_row (first ∷ rows) row = last_row rows row

last_numbered : (rows : List Row) (row : Row) → row_numbered (rows ++ row ∷ []) (length rows + 1) ≡ Some row
last_numbered rows row =
    let next : length rows + 1 ≡ suc (length rows) = omega arith in
    ap (λ (k : ℕ). row_numbered (rows ++ row ∷ []) k) next ∙ last_row rows row

-- the empty clause follows from a row in conflict
clause_follows : (rows : List Row) (vars : ℕ) (row : Row) → is_in_conflict all_free row ≡ true
    → first_fault (rows ++ row ∷ []) vars 1 (Clause [] ((length rows + 1) ∷ []) ∷ []) ≡ None
clause_follows rows vars row conflict =
    let all : List Row = rows ++ row ∷ [] in
    let answer : Option Cause → Option (ℕ × Cause) = λ fault.
    fault_or 2 (row_unless fault (record { terms = []; degree = 1 })) (λ more. None) in
    ap (λ (o : Option Row). answer (after_row o all_free (replay all []))) (last_numbered rows row)
    ∙ ap (λ (b : Bool). answer (cond b None (replay all [] (with_forced all_free row)))) conflict

sum_follows : (rows : List Row) (vars : ℕ) (parts : List Part) (sum : Totals)
    → add_parts rows parts no_totals ≡ Ok sum → judged rows vars (Linear parts 1) ≡ Ok (cancelled sum)
sum_follows rows vars parts sum added =
    ap (λ (r : Result Totals Cause). row_of 1 r) added
    ∙ ap (λ (row : Row). let made : Result Row Cause = Ok row in made) (divided-one (cancelled sum))

pub two_steps : (rows : List Row) (vars : ℕ) (parts : List Part) (sum : Totals)
    → add_parts rows parts no_totals ≡ Ok sum → is_in_conflict all_free (cancelled sum) ≡ true
    → verdict_of rows vars (Linear parts 1 ∷ Clause [] ((length rows + 1) ∷ []) ∷ []) ≡ Accepted
two_steps rows vars parts sum added conflict =
    let last : Step = Clause [] ((length rows + 1) ∷ []) in
    let later : Row → Option (ℕ × Cause) = λ row. first_fault (rows ++ row ∷ []) vars 1 (last ∷ []) in
    ap (λ (r : Result Row Cause). verdict_by (fault_or 1 r later) true 2) (sum_follows rows vars parts sum added)
    ∙ ap (λ (fault : Option (ℕ × Cause)). verdict_by fault true 2)
    (clause_follows rows vars (cancelled sum) conflict)

-- ---- logs that add up

pub adds_up_accepted : (rows named : List Row) (vars : ℕ) (log : List Step) → AddsUp rows named log
    → weight_of (terms_of named) ≤ widest → sum_by (λ r. r.degree) named ≤ widest
    → is_in_conflict all_free (cancelled (all_added no_totals named)) ≡ true
    → verdict_of rows vars log ≡ Accepted
adds_up_accepted rows named vars log is weight degree conflict =
    ap (λ (steps : List Step). verdict_of rows vars steps) is.steps
    ∙ two_steps rows vars is.parts (all_added no_totals named)
    (parts-added rows is.parts named no_totals is.are_named (omega (arith, weight)) (omega (arith, degree)))
    conflict
