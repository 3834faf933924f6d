-- The text of a certificate (own format): a first line that states the least objective, and behind it the log that
-- proves it. That no objective is below 0 needs no log.
use Rattle.std.specs.Prelude.{ℕ, Bool, true, not, ◌==◌, ◌&&◌, ◌^◌, nat_lt, if◌then◌else◌, List, [], ◌∷◌, ◌++◌, take}
use Rattle.std.specs.Prelude.{drop, codes, decimal, bytes_eq, Option, Some, None, Result, Ok, Err}
use Rattle.std.specs.Str.{byte}
use Rattle.std.specs.Str.Parse.{digits_value}
use Rattle.robin_io.specs.Numbers.{is_number}
use Rattle.refutation.specs.Logs.{Fault, end_from, lines_from, lines_of, whole}
use Rattle.refutation.specs.Steps.{Step}
use Rattle.refutation.specs.Texts.{log_text}
use Rattle.refutation.specs.declared.fault.LogKind.TheVariants.{BadLine, NoEnd}
use Rattle.bounds.specs.declared.certificate.Certificate.{Certificate}

-- ---- what is read

-- whether a number has no leading zero: only the number 0 begins with `0`
abbrev pub is_shortest : List ℕ → Bool
is_shortest (first ∷ second ∷ rest) = not (first == byte "0")
is_shortest _ = true

-- the number that bytes write: decimal digits without a leading zero, at most 18446744073709551615
abbrev pub number_in : List ℕ → Option ℕ
number_in bytes =
    if is_number bytes && (is_shortest bytes && nat_lt (digits_value 10 bytes) (2 ^ 64))
    then Some (digits_value 10 bytes)
    else None

-- the objective that a first line states
abbrev pub bound_of : List ℕ → Option ℕ
bound_of line = if bytes_eq (take 6 line) (codes "bound ") then number_in (drop 6 line) else None

-- the lines behind it, from line 2 on: none where it states 0, else a log
abbrev pub nothing_behind : List (List ℕ) → Result (List Step) Fault
nothing_behind lines = whole (end_from 2 lines)

abbrev pub later_log : List (List ℕ) → Result (List Step) Fault
later_log lines = whole (lines_from None 2 lines)

abbrev pub log_behind : ℕ → List (List ℕ) → Result (List Step) Fault
log_behind bound lines = if bound == 0 then nothing_behind lines else later_log lines

-- the objective and its log, or the log's first fault
abbrev pub with_log : ℕ → Result (List Step) Fault → Result Certificate Fault
with_log bound (Ok steps) = Ok (record { bound = bound; log = steps })
with_log bound (Err fault) = Err fault

-- what comes behind a first line
abbrev pub stated_by : Option ℕ → List (List ℕ) → Result Certificate Fault
stated_by None lines = Err (BadLine, 1)
stated_by (Some bound) lines = with_log bound (log_behind bound lines)

-- the lines of a certificate: LF ends the first
abbrev pub certificate_in : List (List ℕ) → Result Certificate Fault
certificate_in [] = Err (NoEnd, 1)
certificate_in (first ∷ []) = Err (NoEnd, 1)
certificate_in (first ∷ next ∷ lines) = stated_by (bound_of first) (next ∷ lines)

-- the certificate that these bytes write, or the first fault
abbrev pub certificate_of : List ℕ → Result Certificate Fault
certificate_of bytes = certificate_in (lines_of bytes)

-- ---- what is written

abbrev pub bound_line : ℕ → List ℕ
bound_line bound = codes "bound " ++ (decimal bound ++ codes "\n")

abbrev pub certificate_text : ℕ → List Step → List ℕ
certificate_text bound steps = bound_line bound ++ (if bound == 0 then [] else log_text steps)
