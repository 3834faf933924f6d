-- What `check` promises: the log of one file gets its verdict over the rows of the league of the other.
use Rattle.std.specs.Prelude.{◌≡◌, ◌⊎◌, ℕ, List, [], ◌∷◌, Some}
use Rattle.league.specs.Instance.{Instance}
use Rattle.command_line.specs.Words.{Command}
use Rattle.answers.specs.declared.status.Status.TheVariants.{Yes, No}
use Rattle.encoding.specs.Encoding.{rows_of}
use Rattle.encoding.specs.Variables.{var_count}
use Rattle.refutation.specs.Steps.{Step}
use Rattle.refutation_check.specs.Room.{KeepsRoom}
use Rattle.decoding.specs.Excluded.{NoneAccepted}
use Rattle.command_check.specs.Check.{IsVerdict, IsWellFormedLog}
use Rattle.robin_run.specs.Said.{SaysLeague}
use Rattle.robin_run.specs.Run.{NothingFails, Run, Writes}

pub record Promise (run : Run) (instance log : List ℕ) : Type 0 where
  -- A well-formed log over a league whose rows aren't too many gets its verdict, where nothing fails.
  pub checked : (league : Instance) (steps : List Step)
      → IsWellFormedLog run.store instance log league steps
      → NothingFails run (instance ∷ log ∷ [])
      → Writes run (IsVerdict league (rows_of league) run.room steps)
  -- A well-formed log is accepted or rejected only where its steps keep to the room that the words give.
  pub within : (league : Instance) (steps : List Step)
      → IsWellFormedLog run.store instance log league steps
      → (run.ended ≡ Yes) ⊎ (run.ended ≡ No)
      → KeepsRoom (rows_of league) (var_count league) run.room steps
  -- Where a log is accepted, the league accepts no list of games.
  pub refuted : (league : Instance)
      → SaysLeague run.store instance league
      → run.ended ≡ Yes
      → NoneAccepted league

-- each run of `check` keeps it
abbrev pub Checks : Run → Type 0
Checks run = (instance log : List ℕ) → run.command ≡ Some (Command.Check instance log) → Promise run instance log
