-- The text of a conflict.
use Rattle.std.specs.Prelude.{◌≡◌, ℕ, List, [], ◌∷◌, ◌++◌, codes, decimal, None, Ok, if◌then◌else◌}
use Rattle.std.specs.List.{flat_map, list_all}
use Rattle.robinx.specs.Pieces.{pieces}
use Rattle.robinx.specs.SolutionFile.{solution_of}
use Rattle.robinx.specs.Texts.{solution_text}
use Rattle.refutation.specs.Logs.{log_of}
use Rattle.refutation.specs.Steps.{Step}
use Rattle.refutation.specs.Texts as logs
use Rattle.solve.specs.Solutions.{IsWritable}
use Rattle.explain.specs.Cases.{is_decided}
use Rattle.explain.specs.declared.cases.Case.{Case}
use Rattle.explain.specs.declared.cases.Case.TheVariants.{Without, Undecided}

-- a number after a space
abbrev pub number_part : ℕ → List ℕ
number_part k = codes " " ++ decimal k

-- the line of the members: `conflict`, and then their numbers
abbrev pub members_line : List ℕ → List ℕ
members_line members = codes "conflict" ++ (flat_map number_part members ++ codes "\n")

-- whether each case is a schedule
abbrev pub minimal_line : List Case → List ℕ
minimal_line cases = if list_all is_decided cases then codes "minimal yes\n" else codes "minimal no\n"

-- a line of a word and a number
abbrev pub numbered_line : List ℕ → ℕ → List ℕ
numbered_line word k = word ++ (decimal k ++ codes "\n")

abbrev pub log_text : List Step → List ℕ
log_text log = logs.log_text log

-- the part of a member: a schedule as a solution file without a score, or a partial log
abbrev pub case_text : ℕ → Case → List ℕ
case_text k (Without games) = numbered_line (codes "without ") k ++ solution_text games None
case_text k (Undecided log) = numbered_line (codes "undecided ") k ++ log_text log

-- one part a member
abbrev pub cases_text : List ℕ → List Case → List ℕ
cases_text [] cases = []
cases_text (k ∷ members) [] = []
cases_text (k ∷ members) (case ∷ cases) = case_text k case ++ cases_text members cases

-- the members, whether all are needed, the log, and the parts
abbrev pub conflict_text : List ℕ → List Step → List Case → List ℕ
conflict_text members log cases =
    members_line members ++ (minimal_line cases ++ (log_text log ++ cases_text members cases))

-- what is written of a case reads back as it: a schedule by the reader of solution files, a partial log by that of logs
abbrev pub ReadsBack : ℕ → Case → Type 0
ReadsBack n (Without games) = solution_of n (pieces (solution_text games None)) ≡ Ok games
ReadsBack n (Undecided log) = log_of (log_text log) ≡ Ok log

-- what is written of a partial log reads back as it
abbrev pub LogReadsBack : Case → Type 0
LogReadsBack (Without games) = Unit {0}
LogReadsBack (Undecided log) = log_of (log_text log) ≡ Ok log

-- a partial log can be written
abbrev pub IsWritableCase : Case → Type 0
IsWritableCase (Without games) = Unit {0}
IsWritableCase (Undecided log) = IsWritable log
