-- The whole text reads back as what was written.
use Rattle.std.proofs.Common.{◌≡◌, ℕ, ◌<◌, ◌^◌, ◌==◌, Bool, true, false, List, [], ◌∷◌, ◌++◌, append_assoc, length}
use Rattle.std.proofs.Common.{refl, arith, ap, ◌∙◌, decimal, Option, Some, None}
use Rattle.std.specs.Prelude.{codes, nat_eq, if◌then◌else◌, IfSome, OnOk, Result, Ok, Err}
use Rattle.robin_io.specs.declared.failed.Failed.{Failed}
use Rattle.std.specs.List.{All, starts_with}
use Rattle.std.proofs.lemmas.Bool.Decides.{nat_tests}
use Rattle.std.proofs.lemmas.List.Elements.{All-head, All-tail}
use Rattle.rows.specs.Rows.{IsRow, Row}
use Rattle.rows.specs.declared.lit.Term.{Term}
use Rattle.opb_forms.specs.Opb.{body_in, least_in, lines_in, lines_of, opb_of, row_in, rows_in, system_from}
use Rattle.opb_forms.specs.Opb.{with_heading, with_least, with_row}
use Rattle.opb_forms.specs.Texts.{heading_text, least_text, opb_text, row_text, rows_text, sum_text}
use Rattle.opb_forms.specs.Systems.{IsSmallRow, IsSmallSystem, IsSmallTerm, System}
use Rattle.opb_forms.proofs.LineLemmas.{HasCoef, Words, heading_in-line, heading_line, heading_line-line, least_in-line}
use Rattle.opb_forms.proofs.LineLemmas.{least_line, least_line-line, lines_of-line, row_in-line, row_line, row_line-begins}
use Rattle.opb_forms.proofs.LineLemmas.{row_line-line}

-- ---- rows

rows_in-line : (line : List ℕ) (lines : Words) (row : Row) → row_in line ≡ Some row
    → rows_in (line ∷ lines) ≡ with_row (Some row) (rows_in lines)
rows_in-line [] lines row is = cc
rows_in-line (b ∷ line) lines row is = ap (λ (o : Option Row). with_row o (rows_in lines)) is

row-cut : (sum degree rest : List ℕ) → (sum ++ (codes ">= " ++ (degree ++ codes " ;\n"))) ++ rest
    ≡ (sum ++ (codes ">= " ++ (degree ++ codes " ;"))) ++ 10 ∷ rest
row-cut sum degree rest = simp append_assoc

lines_of-row : (row : Row) (rest : List ℕ) → IsSmallRow row
    → lines_of (row_text row ++ rest) ≡ row_line row.terms row.degree ∷ lines_of rest
lines_of-row row rest small =
    ap lines_of (row-cut (sum_text row.terms) (decimal row.degree) rest)
    ∙ lines_of-line (row_line row.terms row.degree) rest (row_line-line row.terms row.degree small.terms small.degree)

pub rows_in-text : (rows : List Row) → All IsSmallRow rows → All IsRow rows → rows_in (lines_of (rows_text rows)) ≡ Some rows
rows_in-text [] small are = refl
rows_in-text (row ∷ rows) small are =
    let is : IsSmallRow row = All-head IsSmallRow row rows small in
    let has : IsRow row = All-head IsRow row rows are in
    ap rows_in (lines_of-row row (rows_text rows) is)
    ∙ rows_in-line (row_line row.terms row.degree) (lines_of (rows_text rows)) row
    (row_in-line row.terms row.degree is.terms has.coefs is.degree)
    ∙ ap (with_row (Some row)) (rows_in-text rows (All-tail IsSmallRow row rows small) (All-tail IsRow row rows are))

-- ---- what is to be least, and rows

body_in-line : (heading : ℕ × ℕ) (line : List ℕ) (lines : Words) → starts_with nat_eq line (codes "min:") ≡ false
    → body_in heading (line ∷ lines) ≡ system_from heading None (rows_in (line ∷ lines))
body_in-line heading line lines is =
    ap (λ (b : Bool). if b then with_least heading (least_in line) (rows_in lines)
    else system_from heading None (rows_in (line ∷ lines))) is

body_in-rows : (heading : ℕ × ℕ) (rows : List Row) → All IsSmallRow rows
    → body_in heading (lines_of (rows_text rows)) ≡ system_from heading None (rows_in (lines_of (rows_text rows)))
body_in-rows heading [] small = refl
body_in-rows heading (row ∷ rows) small =
    let is : IsSmallRow row = All-head IsSmallRow row rows small in
    let cut = lines_of-row row (rows_text rows) is in
    rw cut
    (body_in-line heading (row_line row.terms row.degree) (lines_of (rows_text rows))
    (row_line-begins row.terms row.degree))

least-cut : (sum rest : List ℕ)
    → (codes "min: " ++ (sum ++ codes ";\n")) ++ rest ≡ (codes "min: " ++ (sum ++ codes ";")) ++ 10 ∷ rest
least-cut sum rest = simp append_assoc

body_in-least : (heading : ℕ × ℕ) (terms : List Term) (rows : List Row) → All IsSmallTerm terms → All HasCoef terms
    → body_in heading (lines_of (least_text (Some terms) ++ rows_text rows))
    ≡ system_from heading (Some terms) (rows_in (lines_of (rows_text rows)))
body_in-least heading terms rows small coefs =
    ap (λ (bytes : List ℕ). body_in heading (lines_of bytes)) (least-cut (sum_text terms) (rows_text rows))
    ∙ ap (body_in heading) (lines_of-line (least_line terms) (rows_text rows) (least_line-line terms small))
    ∙ ap (λ (o : Option (List Term)). with_least heading o (rows_in (lines_of (rows_text rows))))
    (least_in-line terms small coefs)

pub body_in-text : (heading : ℕ × ℕ) (least : Option (List Term)) (rows : List Row)
    → IfSome least (All IsSmallTerm) → IfSome least (All HasCoef) → All IsSmallRow rows
    → body_in heading (lines_of (least_text least ++ rows_text rows))
    ≡ system_from heading least (rows_in (lines_of (rows_text rows)))
body_in-text heading None rows least coefs small = body_in-rows heading rows small
body_in-text heading (Some terms) rows least coefs small = body_in-least heading terms rows least coefs

-- ---- the whole

heading-cut : (vars count rest : List ℕ)
    → (codes "* #variable= " ++ (vars ++ (codes " #constraint= " ++ (count ++ codes "\n")))) ++ rest
    ≡ (codes "* #variable= " ++ (vars ++ (codes " #constraint= " ++ count))) ++ 10 ∷ rest
heading-cut vars count rest = simp append_assoc

lines_in-heading : (vars count : ℕ) (rest : List ℕ) → vars < 2 ^ 64 → count < 2 ^ 64
    → lines_in (lines_of (heading_text vars count ++ rest)) ≡ body_in (vars, count) (lines_of rest)
lines_in-heading vars count rest vars_small count_small =
    ap (λ (bytes : List ℕ). lines_in (lines_of bytes)) (heading-cut (decimal vars) (decimal count) rest)
    ∙ ap lines_in (lines_of-line (heading_line vars count) rest (heading_line-line vars count vars_small count_small))
    ∙ ap (λ (o : Option (ℕ × ℕ)). with_heading o (lines_of rest)) (heading_in-line vars count vars_small count_small)

same-count : (n : ℕ) → (n == n) ≡ true
same-count n = grind (arith, nat_tests)

system-whole : (vars : ℕ) (least : Option (List Term)) (rows : List Row)
    → system_from (vars, length rows) least (Some rows) ≡ Some (record { vars = vars; least = least; rows = rows })
system-whole vars least rows =
    let some : Option System = Some (record { vars = vars; least = least; rows = rows }) in
    ap (λ (b : Bool). if b then some else None) (same-count (length rows))

pub opb_of-text : (system : System) → IsSmallSystem system → IfSome system.least (All HasCoef) → All IsRow system.rows
    → opb_of (opb_text system) ≡ Some system
opb_of-text system small coefs are =
    let heading : ℕ × ℕ = (system.vars, length system.rows) in
    lines_in-heading system.vars (length system.rows) (least_text system.least ++ rows_text system.rows)
    small.vars small.count
    ∙ body_in-text heading system.least system.rows small.least coefs small.rows
    ∙ ap (system_from heading system.least) (rows_in-text system.rows small.rows are)
    ∙ system-whole system.vars system.least system.rows

-- where the text was written
pub reads-back : (system : System) (result : Result (Unit {0}) Failed) → OnOk result (IsSmallSystem system)
    → IfSome system.least (All HasCoef) → All IsRow system.rows → OnOk result (opb_of (opb_text system) ≡ Some system)
reads-back system (Ok done) small coefs are = opb_of-text system small coefs are
reads-back system (Err e) small coefs are = tt
