-- Four rows of four variables: at least two of 1, 2, 3; not both 1 and 2; 3 needs 4; and not 4.
use Rattle.std.proofs.Common.{◌≡◌, ℕ, List, [], ◌∷◌, Some, codes, map, refl}
use Rattle.std.specs.Prelude.{Ok, Err}
use Rattle.std.specs.List.{fold}
use Rattle.std.specs.Fmt.{digits}
use Rattle.rows.specs.Cardinality.{at_least}
use Rattle.rows.specs.Literals.{yes, no}
use Rattle.rows.specs.Rows.{Row}
use Rattle.refutation.specs.Following.{denied, judged}
use Rattle.refutation.specs.Logs.{lines_from, log_of}
use Rattle.refutation.specs.Steps.{Step}
use Rattle.refutation.specs.Steps.Step.{Clause, Linear}
use Rattle.refutation.specs.Texts.{log_text}
use Rattle.refutation.specs.Verdict.{verdict_of}
use Rattle.refutation.specs.declared.fault.LogKind.TheVariants.{BadLine, BadNumber, NoEnd}
use Rattle.refutation.specs.declared.step.Part.{Part}
use Rattle.refutation.specs.declared.verdict.Cause.TheVariants.{NoConflict, NoEmptyClause, UnknownRow, UnknownVariable}
use Rattle.refutation.specs.declared.verdict.Verdict.TheVariants.{Accepted, Rejected}
use Rattle.refutation_check.specs.Judged.{Judged, after_step, no_step_of, verdict_so_far}
use Rattle.rows.specs.declared.partial.Value.TheVariants.{True, False, Free}

abbrev rows : List Row
rows = at_least 2 (yes 1 ∷ yes 2 ∷ yes 3 ∷ []) ∷ at_least 1 (no 1 ∷ no 2 ∷ [])
    ∷ at_least 1 (no 3 ∷ yes 4 ∷ []) ∷ at_least 1 (no 4 ∷ []) ∷ []

abbrev refute : List ℕ → Step
refute hints = Clause [] hints

-- 4 is false, so 3 is, so 1 and 2 are true, which row 2 forbids
pub at_once : verdict_of rows 4 (refute (4 ∷ 3 ∷ 1 ∷ 2 ∷ []) ∷ []) ≡ Accepted
at_once = refl

-- each hint is used once, in its place: from the front only row 4 forces anything
pub in_order : verdict_of rows 4 (refute (1 ∷ 2 ∷ 3 ∷ 4 ∷ []) ∷ []) ≡ Rejected 1 NoConflict
in_order = refl

-- 3 follows from the rows 1 and 2; as row 5 it refutes the rest, and row 6 would be the last step's own
abbrev three : Step
three = Clause (yes 3 ∷ []) (1 ∷ 2 ∷ [])

pub in_two_steps : (verdict_of rows 4 (three ∷ refute (5 ∷ 3 ∷ 4 ∷ []) ∷ []) ≡ Accepted)
    × (verdict_of rows 4 (three ∷ refute (6 ∷ 3 ∷ 4 ∷ []) ∷ []) ≡ Rejected 2 UnknownRow)
    × (verdict_of rows 4 (three ∷ []) ≡ Rejected 1 NoEmptyClause)
    × (verdict_of rows 2 (three ∷ []) ≡ Rejected 1 UnknownVariable)
in_two_steps = (refl, refl, refl, refl)

-- to deny a clause makes each of its literals false
pub denied_two : map (denied (yes 3 ∷ no 1 ∷ [])) (1 ∷ 2 ∷ 3 ∷ []) ≡ True ∷ Free ∷ False ∷ []
denied_two = refl

abbrev once : ℕ → Part
once row = record { factor = 1; row = row }

-- added up, rows 1 and 2 say that 3 is true
pub added : judged rows 4 (Linear (once 1 ∷ once 2 ∷ []) 1) ≡ Ok (at_least 1 (yes 3 ∷ []))
added = refl

-- all four: 2 + 1 + 1 + 1 is asked for, four are cancelled, and nothing is left but 1
pub all_added : judged rows 4 (Linear (map once (1 ∷ 2 ∷ 3 ∷ 4 ∷ [])) 1) ≡ Ok (record { terms = []; degree = 1 })
all_added = refl

abbrev steps : List Step
steps = Linear (once 1 ∷ once 2 ∷ []) 1 ∷ refute (5 ∷ 3 ∷ 4 ∷ []) ∷ []

pub mixed : verdict_of rows 4 steps ≡ Accepted
mixed = refl

-- one after another they come to the same, and behind a step that doesn't follow none is kept
abbrev come_to : List Step → Judged
come_to log = fold after_step (no_step_of rows 4) log

pub one_by_one : (verdict_so_far (come_to steps) ≡ Accepted)
    × (map (λ s. s.row) (come_to steps).steps ≡ at_least 1 (yes 3 ∷ []) ∷ at_least 1 [] ∷ [])
    × ((come_to (refute [] ∷ steps)).rejection ≡ Some (1, NoConflict))
    × ((come_to (refute [] ∷ steps)).steps ≡ [])
    × (verdict_so_far (come_to []) ≡ Rejected 0 NoEmptyClause)
one_by_one = (refl, refl, refl, refl, refl)

-- ---- texts

pub text : log_text steps ≡ codes "refutation 2\nl 1 1 1 2 0 1\nc 0 5 3 4 0\nend\n"
unfolding digits
text = refl

pub text_of_clauses : log_text (Clause (no 12 ∷ yes 3 ∷ []) (7 ∷ []) ∷ []) ≡ codes "refutation 1\n-12 3 0 7 0\nend\n"
unfolding digits
text_of_clauses = refl

pub read : (log_of (codes "refutation 2\nl 1 1 1 2 0 1\nc 0 5 3 4 0\nend\n") ≡ Ok steps)
    × (log_of (codes "refutation 1\n-12 3 0 7 0\nend\n") ≡ Ok (Clause (no 12 ∷ yes 3 ∷ []) (7 ∷ []) ∷ []))
unfolding lines_from
read = (refl, refl)

-- two spaces, an odd number of factors and rows, a hint that is too large behind one that is none, the last LF missing
pub misread : (log_of (codes "refutation 1\n3  0 0\nend\n") ≡ Err (BadLine, 2))
    × (log_of (codes "refutation 2\nl 1 1 1 0 1\nend\n") ≡ Err (BadLine, 2))
    × (log_of (codes "refutation 1\n0 18446744073709551616 x 0\nend\n") ≡ Err (BadLine, 2))
    × (log_of (codes "refutation 1\n0 18446744073709551616 0\nend\n") ≡ Err (BadNumber, 2))
    × (log_of (codes "refutation 1\nend") ≡ Err (NoEnd, 2))
unfolding lines_from
misread = (refl, refl, refl, refl, refl)
