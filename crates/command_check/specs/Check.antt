-- What `check` answers: its stages in their order, and the verdict on a log.
use Rattle.std.specs.Prelude.{◌≡◌, ℕ, ◌<◌, ◌≤◌, ◌⊎◌, List, ◌++◌, length, codes, decimal}
use Rattle.std.specs.Prelude.{Option, Some, IfSome, Result, Ok, Err}
use Rattle.robin_io.specs.Outside.{Store}
use Rattle.robinx.specs.Pieces.{pieces}
use Rattle.league.specs.Instance.{Instance}
use Rattle.robinx.specs.InstanceFile.{instance_of}
use Rattle.robinx.specs.declared.instance.TheConstants.{INSTANCE_LIMIT}
use Rattle.answers.specs.Reply.{Answer, log_malformed, too_large}
use Rattle.answers.specs.Stages.{◌>>=◌, IsFile, Outcome, reads, says}
use Rattle.answers.specs.declared.status.Status.TheVariants.{Yes, No}
use Rattle.rows.specs.Rows.{Row}
use Rattle.encoding.specs.Encoding.{encoding_size, rows_of}
use Rattle.encoding.specs.Limit.{most_terms}
use Rattle.encoding.specs.Variables.{var_count}
use Rattle.refutation.specs.Steps.{Step}
use Rattle.refutation.specs.Logs.{Fault, log_of}
use Rattle.refutation.specs.Places.{log_from, start}
use Rattle.refutation.specs.Verdict.{verdict_of}
use Rattle.refutation.specs.declared.verdict.Cause.{Cause}
use Rattle.refutation.specs.declared.verdict.Cause.TheVariants.{UnknownRow, UnknownVariable, NoConflict, NoEmptyClause}
use Rattle.refutation.specs.declared.verdict.Cause.TheVariants.{TooWide}
use Rattle.refutation.specs.declared.verdict.Verdict.{Verdict}
use Rattle.refutation.specs.declared.verdict.Verdict.TheVariants.{Accepted, Rejected}
use Rattle.refutation_check.specs.Room.{KeepsRoom, PassesRoom}
use Rattle.decoding.specs.Excluded.{NoneAccepted}

-- the most bytes of a log (own limit)
abbrev pub most_log_bytes : ℕ
most_log_bytes = 268435456

-- ---- texts

-- the name of a cause
abbrev pub cause_word : Cause → List ℕ
cause_word UnknownRow = codes "UnknownRow"
cause_word UnknownVariable = codes "UnknownVariable"
cause_word NoConflict = codes "NoConflict"
cause_word NoEmptyClause = codes "NoEmptyClause"
cause_word TooWide = codes "TooWide"

-- the verdict on a log of so many steps
abbrev pub verdict_answer : ℕ → Verdict → Answer
verdict_answer steps Accepted =
    record { status = Yes; text = codes "accepted steps " ++ (decimal steps ++ codes "\n") }
verdict_answer steps (Rejected step cause) = record {
  status = No;
  text = codes "rejected step " ++ (decimal step ++ (codes " cause " ++ (cause_word cause ++ codes "\n")));
}

-- ---- stages

-- the stage that makes the rows of the league, unless they have too many terms
abbrev pub encodes : Instance → (List Row → Outcome) → Outcome
encodes league next answer =
    ((encoding_size league ≤ most_terms) × next (rows_of league) answer)
    ⊎ ((most_terms < encoding_size league) × (answer ≡ too_large (encoding_size league)))

-- the stage that takes what a log's text says: its steps, or its first fault of form
abbrev pub says_log : Result (List Step) Fault → (List Step → Outcome) → Outcome
says_log (Ok steps) next answer = next steps answer
says_log (Err fault) next answer = answer ≡ log_malformed fault.0 fault.1

-- the verdict on a log over rows of so many variables
abbrev pub IsVerdictOver : List Row → ℕ → List Step → Outcome
IsVerdictOver rows vars steps answer = answer ≡ verdict_answer (length steps) (verdict_of rows vars steps)

-- The verdict on a log over rows of so many variables, which is said only where the steps of the log keep to a limit.
pub record IsVerdictWithin (rows : List Row) (vars : ℕ) (room : Option ℕ) (steps : List Step) (answer : Answer) : Type 0
  where
    pub verdict : IsVerdictOver rows vars steps answer
    pub within : KeepsRoom rows vars room steps

-- The verdict on a log over the rows of the league. It is said only where the steps of the log keep to a limit. Where it
-- says yes, the league accepts no list of games, of whatever length.
pub record IsVerdict (league : Instance) (rows : List Row) (room : Option ℕ) (steps : List Step) (answer : Answer) : Type 0
  where
    pub verdict : IsVerdictOver rows (var_count league) steps answer
    pub within : KeepsRoom rows (var_count league) room steps
    pub refuted : answer.status ≡ Yes → NoneAccepted league

-- `check`, over what a store shows, where the steps of the log may take so many bytes: the whole log is read before the
-- verdict, so a fault of form comes before any verdict
abbrev pub checked : Store → Option ℕ → List ℕ → List ℕ → Outcome
checked store room instance log = do
  first ← reads store (codes "instance") instance INSTANCE_LIMIT 0
  league ← says (codes "instance") (instance_of (pieces first))
  rows ← encodes league
  second ← reads store (codes "log") log most_log_bytes (length first)
  steps ← says_log (log_of second)
  IsVerdict league rows room steps

-- ---- want of room

-- The file of a log, whose bytes are known or not, begins with bytes that say some first steps that pass a limit.
pub record LogPassesRoom (known : Option (List ℕ)) (rows : List Row) (vars : ℕ) (room : Option ℕ) : Type 0 where
  pub front : List ℕ
  pub begins : IfSome known (λ file. (rest : List ℕ) × (file ≡ front ++ rest))
  pub passes : PassesRoom rows vars room (log_from start front).steps

-- Over the rows of the league that the instance file says, some first steps of the log pass a limit.
pub record LacksRoom (store : Store) (room : Option ℕ) (instance log : List ℕ) : Type 0 where
  pub first : List ℕ
  pub first_file : IsFile (store.contents instance) INSTANCE_LIMIT first
  pub league : Instance
  pub says_league : instance_of (pieces first) ≡ Ok league
  pub passes : LogPassesRoom (store.contents log) (rows_of league) (var_count league) room

-- ---- a run

-- two files within their limits whose bytes are known, which say a league whose rows aren't too many and the steps of a
-- log
pub record IsWellFormedLog
    (store : Store)
    (instance log : List ℕ)
    (league : Instance)
    (steps : List Step)
    : Type 0 where
  pub first : List ℕ
  pub second : List ℕ
  pub first_known : store.contents instance ≡ Some first
  pub second_known : store.contents log ≡ Some second
  pub first_within : length first ≤ INSTANCE_LIMIT
  pub second_within : length second ≤ most_log_bytes
  pub says_league : instance_of (pieces first) ≡ Ok league
  pub small : encoding_size league ≤ most_terms
  pub says_steps : log_of second ≡ Ok steps
