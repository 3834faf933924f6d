-- What `values` answers: the season that a file of values stands for, or the first row of the league that they miss.
use Rattle.std.specs.Prelude.{◌≡◌, ℕ, ◌+◌, ◌≤◌, ◌++◌, Bool, if◌then◌else◌, List, [], ◌∷◌, length, codes, decimal}
use Rattle.std.specs.Prelude.{Option, Some, None, Result, Ok, Err}
use Rattle.robin_io.specs.Outside.{Store}
use Rattle.league.specs.Accepted.{IsAccepted, objective}
use Rattle.league.specs.Counts.{counts_of}
use Rattle.league.specs.Instance.{Instance}
use Rattle.robinx.specs.Pieces.{pieces}
use Rattle.robinx.specs.InstanceFile.{instance_of}
use Rattle.robinx.specs.SolutionFile.{solution_of}
use Rattle.robinx.specs.Texts.{solution_text}
use Rattle.robinx.specs.declared.instance.TheConstants.{INSTANCE_LIMIT}
use Rattle.answers.specs.Reply.{Answer}
use Rattle.answers.specs.Stages.{◌>>=◌, Outcome, reads, says}
use Rattle.answers.specs.declared.status.Status.TheVariants.{Yes, No, File}
use Rattle.command_check.specs.Check.{encodes, most_log_bytes}
use Rattle.rows.specs.Literals.{Literal}
use Rattle.rows.specs.Rows.{Row}
use Rattle.rows.specs.Tests.{satisfied}
use Rattle.rows.specs.Values.{assigned}
use Rattle.encoding.specs.Shadow.{decoded}
use Rattle.encoding.specs.Variables.{var_count}
use Rattle.opb_forms.specs.Values.{value_in, values_of}

-- ---- what is found

-- the values of the variables from 1 to a number, where these literals are said
pub record AreValues (vars : ℕ) (lits : List Literal) (values : List Bool) : Type 0 where
  pub count : length values ≡ vars
  pub each : (v : ℕ) → 1 ≤ v → v ≤ vars → assigned values v ≡ value_in lits v

-- the number of the first of some rows that values miss, counted from a number on
abbrev pub missed_from : ℕ → List Row → (ℕ → Bool) → Option ℕ
missed_from k [] values = None
missed_from k (row ∷ rows) values = if satisfied values row then missed_from (k + 1) rows values else Some k

-- no row is missed: the season is written with its objective, and is one that the league accepts
pub record IsSeason (league : Instance) (values : ℕ → Bool) (answer : Answer) : Type 0 where
  pub accepted : IsAccepted league (counts_of (decoded league.n values))
  pub status : answer.status ≡ Yes
  pub text : answer.text
      ≡ solution_text (decoded league.n values) (Some (0, objective league (counts_of (decoded league.n values))))
  pub reads_back : solution_of league.n (pieces answer.text) ≡ Ok (decoded league.n values)

-- the row of this number is missed, and none before it
abbrev pub missed_answer : ℕ → Answer
missed_answer k = record { status = No; text = codes "missed row " ++ (decimal k ++ codes "\n") }

-- what is found of values: no row is missed, or a first one
abbrev pub found_of : Instance → (ℕ → Bool) → Option ℕ → Outcome
found_of league values None answer = IsSeason league values answer
found_of league values (Some k) answer = answer ≡ missed_answer k

-- what is found of a file's literals, over the rows of the league
pub record IsValued (league : Instance) (rows : List Row) (lits : List Literal) (answer : Answer) : Type 0 where
  pub values : List Bool
  pub are_values : AreValues (var_count league) lits values
  pub found : found_of league (assigned values) (missed_from 1 rows (assigned values)) answer

-- ---- stages

-- a line of the file has a word that is no literal, and none before it
abbrev pub values_malformed : ℕ → Answer
values_malformed line =
    record { status = File; text = codes "refused values BadLine line " ++ (decimal line ++ codes "\n") }

-- the stage that takes what a file of values says: its literals, or its first fault
abbrev pub says_values : Result (List Literal) ℕ → (List Literal → Outcome) → Outcome
says_values (Ok lits) next answer = next lits answer
says_values (Err line) next answer = answer ≡ values_malformed line

-- `values`, over what a store shows
abbrev pub valued : Store → List ℕ → List ℕ → Outcome
valued store instance values = do
  first ← reads store (codes "instance") instance INSTANCE_LIMIT 0
  league ← says (codes "instance") (instance_of (pieces first))
  rows ← encodes league
  second ← reads store (codes "values") values most_log_bytes (length first)
  lits ← says_values (values_of second)
  IsValued league rows lits
