-- What the text of a log says (own format): its steps, line by line, and then its end or the first fault.
use Rattle.std.specs.Prelude.{ℕ, ◌+◌, nat_le, ◌==◌, if◌then◌else◌, List, [], ◌∷◌, ◌++◌, length}
use Rattle.std.specs.Prelude.{Option, Some, None, Result, Ok, Err, codes, bytes_eq}
use Rattle.std.specs.List.{slice_split}
use Rattle.std.specs.Str.{byte}
use Rattle.refutation.specs.Steps.{Step}
use Rattle.refutation.specs.Lines.{◌>>=◌, check, step_line}
use Rattle.refutation.specs.declared.fault.LogKind.{LogKind}
use Rattle.refutation.specs.declared.fault.LogKind.TheVariants.{BadLine, NoEnd, TooLong}
use Rattle.refutation.specs.declared.version.Version.{Version}
use Rattle.refutation.specs.declared.version.Version.TheVariants.{One, Two}

-- the kind of a fault, and the number of its line, from 1
abbrev pub Fault : Type 0
Fault = LogKind × ℕ

-- What is read: steps, and then the first fault, or None at the log's end.
pub record Reading : Type 0 where
  pub steps : List Step
  pub fault : Option Fault

-- the log's end
abbrev pub nothing_more : Reading
nothing_more = record { steps = []; fault = None }

-- a fault
abbrev pub no_steps_but : LogKind → ℕ → Reading
no_steps_but kind line = record { steps = []; fault = Some (kind, line) }

-- what was read before, and then this
abbrev pub after : List Step → Reading → Reading
after steps read = record { steps = steps ++ read.steps; fault = read.fault }

-- ---- one line

-- the most bytes of a line, without its LF (own limit)
abbrev pub most_bytes : ℕ
most_bytes = 16777216

-- What a whole line is.
pub data Line : Type 0 where
  Heading : (version : Version) → Line
  End : Line
  Says : (step : Step) → Line

-- the first line names the version
abbrev pub heading_of : List ℕ → Result Line LogKind
heading_of text =
    if bytes_eq text (codes "refutation 1") then Ok (Heading One)
    else (if bytes_eq text (codes "refutation 2") then Ok (Heading Two) else Err BadLine)

-- a line of a log of this version, or the first line, where no version is known
abbrev pub words_of : Option Version → List ℕ → Result Line LogKind
words_of None text = heading_of text
words_of (Some version) text =
    if bytes_eq text (codes "end") then Ok End else (step_line version text >>= λ step. Ok (Says step))

abbrev pub line_of : Option Version → List ℕ → Result Line LogKind
line_of version text = check (nat_le (length text) most_bytes) TooLong >>= λ short. words_of version text

-- what is wrong with a last line that no LF ends
abbrev pub unfinished : List ℕ → LogKind
unfinished text = if nat_le (length text) most_bytes then NoEnd else TooLong

-- ---- all lines

-- behind the line `end` the text must end
abbrev pub end_from : ℕ → List (List ℕ) → Reading
end_from line ([] ∷ []) = nothing_more
end_from line _ = no_steps_but BadLine line

-- A line in a log of this version, where `others` is what is read from the next line on in a log of a version, and
-- `behind` is what is read there where this line is the last.
abbrev pub go_on : Result Line LogKind → Option Version → ℕ → (Option Version → Reading) → Reading → Reading
go_on (Err kind) version line others behind = no_steps_but kind line
go_on (Ok (Heading found)) version line others behind = others (Some found)
go_on (Ok End) version line others behind = behind
go_on (Ok (Says step)) version line others behind = after (step ∷ []) (others version)

-- The lines from this one on, where the version is known unless this is the first line. No LF ends the last of them.
unfoldable pub lines_from : Option Version → ℕ → List (List ℕ) → Reading
lines_from version line [] = no_steps_but NoEnd line
lines_from version line (text ∷ []) = no_steps_but (unfinished text) line
lines_from version line (text ∷ next ∷ lines) =
    go_on (line_of version text) version line (λ known. lines_from known (line + 1) (next ∷ lines))
    (end_from (line + 1) (next ∷ lines))

-- the bytes cut at each LF
abbrev pub lines_of : List ℕ → List (List ℕ)
lines_of bytes = slice_split (λ b. b == byte "\n") bytes

-- the steps, or the first fault
abbrev pub whole : Reading → Result (List Step) Fault
whole read = elim read.fault [ None ↦ Ok read.steps | Some fault ↦ Err fault ]

-- the log that these bytes write, or the first fault
abbrev pub log_of : List ℕ → Result (List Step) Fault
log_of bytes = whole (lines_from None 1 (lines_of bytes))
