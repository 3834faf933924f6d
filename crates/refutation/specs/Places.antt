-- Where a reader of a log's text is, and what it reads from there on.
use Rattle.std.specs.Prelude.{ℕ, Bool, true, false, List, [], ◌++◌, Option, Some, None}
use Rattle.refutation.specs.Logs.{Fault, Reading, end_from, lines_from, lines_of}
use Rattle.refutation.specs.declared.version.Version.{Version}

-- The number of the line that the reader is in, that line's bytes so far, the version that the log's first line gave
-- once it was read, whether `end` was read, and the first fault, if there was one.
pub record Place : Type 0 where
  pub line : ℕ
  pub text : List ℕ
  pub version : Option Version
  pub ended : Bool
  pub fault : Option Fault

-- in front of a log whose first line has this number
abbrev pub start_at : ℕ → Place
start_at line = record { line = line; text = []; version = None; ended = false; fault = None }

-- in front of a log
abbrev pub start : Place
start = start_at 1

abbrev pub lines_at : Bool → Option Version → ℕ → List (List ℕ) → Reading
lines_at true version line lines = end_from line lines
lines_at false version line lines = lines_from version line lines

abbrev pub read_at : Option Fault → Bool → Option Version → ℕ → List (List ℕ) → Reading
read_at (Some fault) ended version line lines = record { steps = []; fault = Some fault }
read_at None ended version line lines = lines_at ended version line lines

-- what is read in these bytes from a place on: nothing more after a fault
abbrev pub log_from : Place → List ℕ → Reading
log_from at bytes = read_at at.fault at.ended at.version at.line (lines_of (at.text ++ bytes))
