-- Logs, worked out by hand: what their texts say, which faults count first, and which texts are written.
use Prim.Native.String.{String}
use Rattle.std.proofs.Common.{◌≡◌, ℕ, ◌<◌, ◌≤◌, length, Option, true, false, List, [], ◌∷◌, ◌++◌, Some, None, Ok}
use Rattle.std.proofs.Common.{Err, refl}
use Rattle.std.specs.Prelude.{codes, nat_le, Result}
use Rattle.std.specs.Fmt.{digits}
use Rattle.std.proofs.lemmas.Bool.{le-leb, lt-leb}
use Rattle.rows.specs.Literals.{yes, no}
use Rattle.refutation.specs.Steps.{Step, kind_at, clause_at, hints_at, parts_at, divisor_at}
use Rattle.refutation.specs.Steps.Step.{Clause, Linear}
use Rattle.refutation.specs.Logs.{Fault, line_of, lines_from, log_of, unfinished, words_of}
use Rattle.refutation.specs.Texts.{log_text, text_in}
use Rattle.refutation.specs.Places.{log_from, start_at}
use Rattle.refutation.specs.declared.fault.LogKind.TheVariants.{BadLine, BadNumber, NoEnd, TooLong}
use Rattle.refutation.specs.declared.step.Part.{Part}
use Rattle.refutation.specs.declared.step.StepKind.TheVariants as kinds
use Rattle.refutation.specs.declared.version.Version.{Version}
use Rattle.refutation.specs.declared.version.Version.TheVariants.{One, Two}

abbrev says : String → Result (List Step) Fault
says text = log_of (codes text)

-- one step as line 2, in a log of version 1 and of version 2
abbrev one : String → Result (List Step) Fault
one text = log_of (codes "refutation 1\n" ++ (codes text ++ codes "\nend\n"))

abbrev two : String → Result (List Step) Fault
two text = log_of (codes "refutation 2\n" ++ (codes text ++ codes "\nend\n"))

abbrev times : ℕ → ℕ → Part
times factor row = record { factor = factor; row = row }

-- ---- version 1

-- logs over four teams: home games of one team, a clause of one literal, no step, no end, a missing zero
pub worked : (says "refutation 1\n0 153 154 155 133 0\nend\n" ≡ Ok (Clause [] (153 ∷ 154 ∷ 155 ∷ 133 ∷ []) ∷ []))
    × (one "0 157 0" ≡ Ok (Clause [] (157 ∷ []) ∷ []))
    × (one "97 0 153 0" ≡ Ok (Clause (yes 97 ∷ []) (153 ∷ []) ∷ []))
    × (says "refutation 1\nend\n" ≡ Ok [])
    × (says "refutation 1\n0 153 154 155 133 0\n" ≡ Err (NoEnd, 3))
    × (one "0 153 0 1" ≡ Err (BadLine, 2))
    × (one "3000000000 0 1 0" ≡ Err (BadNumber, 2))
    × (says "refutation 1\n0 133 0\n0 133\n" ≡ Err (BadLine, 3))
unfolding lines_from
worked = (refl, refl, refl, refl, refl, refl, refl, refl)

-- the greatest numbers, and one more
pub wild : (one "0 18446744073709551615 0" ≡ Ok (Clause [] (18446744073709551615 ∷ []) ∷ []))
    × (one "0 18446744073709551616 0" ≡ Err (BadNumber, 2))
    × (one "2147483647 0 0" ≡ Ok (Clause (yes 2147483647 ∷ []) [] ∷ []))
    × (one "-2147483648 0 0" ≡ Err (BadNumber, 2))
    × (one "00 0 0" ≡ Err (BadLine, 2))
    × (one "-0 0 0" ≡ Err (BadLine, 2))
    × (one "0 153 -154 0" ≡ Err (BadLine, 2))
    × (one "1 -1 0 0" ≡ Ok (Clause (yes 1 ∷ no 1 ∷ []) [] ∷ []))
unfolding lines_from
wild = (refl, refl, refl, refl, refl, refl, refl, refl)

-- the first line and the last
pub ends : (says "" ≡ Err (NoEnd, 1))
    × (says "refutation 1" ≡ Err (NoEnd, 1))
    × (says "refutation 1\n" ≡ Err (NoEnd, 2))
    × (says "refutation 3\nend\n" ≡ Err (BadLine, 1))
    × (says "end\n" ≡ Err (BadLine, 1))
    × (says "refutation 1\nrefutation 1\nend\n" ≡ Err (BadLine, 2))
    × (says "refutation 1\nend" ≡ Err (NoEnd, 2))
    × (says "refutation 1\nend\nx" ≡ Err (BadLine, 3))
    × (says "refutation 1\nend\n\n" ≡ Err (BadLine, 3))
    × (says "refutation 1\nend\n " ≡ Err (BadLine, 3))
    × (says "refutation 1\r\nend\r\n" ≡ Err (BadLine, 1))
unfolding lines_from
ends = (refl, refl, refl, refl, refl, refl, refl, refl, refl, refl, refl)

-- tokens, and the form of a whole line before its first number
pub tokens : (one "" ≡ Err (BadLine, 2))
    × (one "0 0" ≡ Ok (Clause [] [] ∷ []))
    × (one "0 0 " ≡ Err (BadLine, 2))
    × (one "0  0" ≡ Err (BadLine, 2))
    × (one " 0 0" ≡ Err (BadLine, 2))
    × (one "0 0 0" ≡ Err (BadLine, 2))
    × (one "0 0\r" ≡ Err (BadLine, 2))
    × (one "1 0 2" ≡ Err (BadLine, 2))
    × (one "-2 3 0 4 4 0" ≡ Ok (Clause (no 2 ∷ yes 3 ∷ []) (4 ∷ 4 ∷ []) ∷ []))
    × (one "99999999999 0 0 x" ≡ Err (BadLine, 2))
    × (one "99999999999 0 +1 0" ≡ Err (BadLine, 2))
    × (one "--1 0 0" ≡ Err (BadLine, 2))
    × (one "- 0 0" ≡ Err (BadLine, 2))
unfolding lines_from
tokens = (refl, refl, refl, refl, refl, refl, refl, refl, refl, refl, refl, refl, refl)

-- ---- version 2

-- a sum of rows, and the empty clause by the row that it gives
pub summed : (says "refutation 2\nl 1 133 1 135 1 137 2 153 0 1\nc 0 157 0\nend\n"
    ≡ Ok (Linear (times 1 133 ∷ times 1 135 ∷ times 1 137 ∷ times 2 153 ∷ []) 1 ∷ Clause [] (157 ∷ []) ∷ []))
    × (says "refutation 2\nend\n" ≡ Ok [])
    × (two "l 0 1" ≡ Ok (Linear [] 1 ∷ []))
    × (two "c -2 3 0 4 0" ≡ Ok (Clause (no 2 ∷ yes 3 ∷ []) (4 ∷ []) ∷ []))
    × (two "l 18446744073709551615 18446744073709551615 0 18446744073709551615"
    ≡ Ok (Linear (times 18446744073709551615 18446744073709551615 ∷ []) 18446744073709551615 ∷ []))
unfolding lines_from
summed = (refl, refl, refl, refl, refl)

-- factors, rows and divisors are from 1, rows have factors, and one divisor ends the line
pub sums : (two "l 1 133 0 0" ≡ Err (BadLine, 2))
    × (two "l 0 1 0 1" ≡ Err (BadLine, 2))
    × (two "l 1 0 0 1" ≡ Err (BadLine, 2))
    × (two "l 1 0 1" ≡ Err (BadLine, 2))
    × (two "l 1 133 0 1 1" ≡ Err (BadLine, 2))
    × (two "l 1 133 0" ≡ Err (BadLine, 2))
    × (two "l 1 133 0 " ≡ Err (BadLine, 2))
    × (two "l 1 133 2" ≡ Err (BadLine, 2))
    × (two "l 1 -133 0 1" ≡ Err (BadLine, 2))
    × (two "l 01 133 0 1" ≡ Err (BadLine, 2))
    × (two "l 18446744073709551616 133 0 1" ≡ Err (BadNumber, 2))
    × (two "l 1 18446744073709551616 0 1" ≡ Err (BadNumber, 2))
    × (two "l 1 133 0 18446744073709551616" ≡ Err (BadNumber, 2))
    × (two "l 18446744073709551616 133 1 0 1" ≡ Err (BadLine, 2))
unfolding lines_from
sums = (refl, refl, refl, refl, refl, refl, refl, refl, refl, refl, refl, refl, refl, refl)

-- each step is marked in version 2, and none in version 1
pub marks : (two "c" ≡ Err (BadLine, 2))
    × (two "l" ≡ Err (BadLine, 2))
    × (two "c0 157 0" ≡ Err (BadLine, 2))
    × (two "c  0 157 0" ≡ Err (BadLine, 2))
    × (two "0 157 0" ≡ Err (BadLine, 2))
    × (two "x 0 157 0" ≡ Err (BadLine, 2))
    × (two "" ≡ Err (BadLine, 2))
    × (two "c 3000000000 0 1 0" ≡ Err (BadNumber, 2))
    × (one "l 1 133 0 1" ≡ Err (BadLine, 2))
    × (one "c 0 157 0" ≡ Err (BadLine, 2))
    × (says "refutation 2\nrefutation 2\nend\n" ≡ Err (BadLine, 2))
    × (says "refutation 2\n" ≡ Err (NoEnd, 2))
unfolding lines_from
marks = (refl, refl, refl, refl, refl, refl, refl, refl, refl, refl, refl, refl)

-- ---- the limit of a line

-- whatever a line says, and in each version
pub short : (version : Option Version) (text : List ℕ) → length text ≤ 16777216
    → line_of version text ≡ words_of version text
short version text fits = let is : nat_le (length text) 16777216 ≡ true = le-leb (length text) 16777216 fits in
    rw is refl

pub long : (version : Option Version) (text : List ℕ) → 16777216 < length text → line_of version text ≡ Err TooLong
long version text more = let is : nat_le (length text) 16777216 ≡ false = lt-leb (length text) 16777216 more in
    rw is refl

-- a line has no end where no LF ends it
pub short-unfinished : (text : List ℕ) → length text ≤ 16777216 → unfinished text ≡ NoEnd
short-unfinished text fits = let is : nat_le (length text) 16777216 ≡ true = le-leb (length text) 16777216 fits in
    rw is refl

pub long-unfinished : (text : List ℕ) → 16777216 < length text → unfinished text ≡ TooLong
long-unfinished text more = let is : nat_le (length text) 16777216 ≡ false = lt-leb (length text) 16777216 more in
    rw is refl

-- ---- reading on

-- from the middle of a line; behind `end`; at a fault; from a log's first line that is line 2 of a file
pub midway : (log_from (record { line = 7; text = codes "0 15"; version = Some One; ended = false; fault = None })
    (codes "7 0\nend\n")
    ≡ record { steps = Clause [] (157 ∷ []) ∷ []; fault = None })
    × (log_from (record { line = 8; text = []; version = Some One; ended = true; fault = None }) []
    ≡ record { steps = []; fault = None })
    × (log_from (record { line = 8; text = []; version = Some One; ended = true; fault = None }) (codes " ")
    ≡ record { steps = []; fault = Some (BadLine, 8) })
    × (log_from (record { line = 9; text = []; version = Some Two; ended = false; fault = Some (BadNumber, 4) })
    (codes "end\n")
    ≡ record { steps = []; fault = Some (BadNumber, 4) })
    × (log_from (start_at 2) (codes "refutation 1\n0 0\n")
    ≡ record { steps = Clause [] [] ∷ []; fault = Some (NoEnd, 4) })
unfolding lines_from
midway = (refl, refl, refl, refl, refl)

-- ---- what is written

abbrev clauses : List Step
clauses = Clause [] (153 ∷ 154 ∷ []) ∷ Clause (no 2 ∷ yes 3 ∷ []) [] ∷ []

abbrev mixed : List Step
mixed = Clause (no 2 ∷ yes 3 ∷ []) (4 ∷ []) ∷ Linear (times 1 133 ∷ times 20 153 ∷ []) 3 ∷ Linear [] 1 ∷ []

pub written : (log_text clauses ≡ codes "refutation 1\n0 153 154 0\n-2 3 0 0\nend\n")
    × (log_text [] ≡ codes "refutation 1\nend\n")
    × (log_text mixed ≡ codes "refutation 2\nc -2 3 0 4 0\nl 1 133 20 153 0 3\nl 0 1\nend\n")
    × (text_in Two clauses ≡ codes "refutation 2\nc 0 153 154 0\nc -2 3 0 0\nend\n")
unfolding digits
written = (refl, refl, refl, refl)

-- ---- what a step has

pub parts_of_steps : (kind_at mixed 0 ≡ kinds.Clause)
    × (kind_at mixed 1 ≡ kinds.Linear)
    × (clause_at mixed 0 ≡ no 2 ∷ yes 3 ∷ [])
    × (hints_at mixed 0 ≡ 4 ∷ [])
    × (parts_at mixed 1 ≡ times 1 133 ∷ times 20 153 ∷ [])
    × (divisor_at mixed 1 ≡ 3)
    × (parts_at mixed 2 ≡ [])
    × (divisor_at mixed 2 ≡ 1)
parts_of_steps = (refl, refl, refl, refl, refl, refl, refl, refl)
