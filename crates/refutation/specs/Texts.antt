-- The text of a log (own format).
use Rattle.std.specs.Prelude.{ℕ, Bool, true, false, List, [], ◌++◌, codes, decimal, if◌then◌else◌}
use Rattle.std.specs.List.{flat_map, list_any}
use Rattle.rows.specs.Literals.{Literal}
use Rattle.refutation.specs.Steps.{Step, is_linear}
use Rattle.refutation.specs.Steps.Step.{Clause, Linear}
use Rattle.refutation.specs.declared.step.Part.{Part}
use Rattle.refutation.specs.declared.version.Version.{Version}
use Rattle.refutation.specs.declared.version.Version.TheVariants.{One, Two}

-- ---- tokens

abbrev pub sign_text : Bool → List ℕ
sign_text true = []
sign_text false = codes "-"

abbrev pub literal_token : Literal → List ℕ
literal_token lit = sign_text lit.positive ++ decimal lit.var

-- a literal, a number and a part, with a space behind each token
abbrev pub literal_text : Literal → List ℕ
literal_text lit = literal_token lit ++ codes " "

abbrev pub number_text : ℕ → List ℕ
number_text number = decimal number ++ codes " "

abbrev pub part_text : Part → List ℕ
part_text part = number_text part.factor ++ number_text part.row

-- ---- lines

-- literals, `0`, hints, `0`
abbrev pub clause_text : List Literal → List ℕ → List ℕ
clause_text clause hints = flat_map literal_text clause ++ (codes "0 " ++ (flat_map number_text hints ++ codes "0"))

-- factors and rows, `0`, the divisor
abbrev pub linear_text : List Part → ℕ → List ℕ
linear_text parts divisor = flat_map part_text parts ++ (codes "0 " ++ decimal divisor)

-- what marks a clause step in a version
abbrev pub clause_mark : Version → List ℕ
clause_mark One = []
clause_mark Two = codes "c "

-- the line of a step, without its LF; version 1 has no linear steps
abbrev pub step_text : Version → Step → List ℕ
step_text version (Clause clause hints) = clause_mark version ++ clause_text clause hints
step_text version (Linear parts divisor) = codes "l " ++ linear_text parts divisor

abbrev pub step_line_text : Version → Step → List ℕ
step_line_text version step = step_text version step ++ codes "\n"

abbrev pub heading_text : Version → List ℕ
heading_text One = codes "refutation 1\n"
heading_text Two = codes "refutation 2\n"

-- ---- the whole text

abbrev pub text_in : Version → List Step → List ℕ
text_in version steps = heading_text version ++ (flat_map (step_line_text version) steps ++ codes "end\n")

-- version 1 where no step is linear
abbrev pub version_of : List Step → Version
version_of steps = if list_any is_linear steps then Two else One

abbrev pub log_text : List Step → List ℕ
log_text steps = text_in (version_of steps) steps
