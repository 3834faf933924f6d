-- What `audit` promises: the log of a third file gets its verdict over the resume rows of a season.
use Rattle.std.specs.Prelude.{◌≡◌, ◌⊎◌, ℕ, List, [], ◌∷◌, Some}
use Rattle.league.specs.Counts.{counts_of}
use Rattle.league.specs.Instance.{Instance}
use Rattle.league.specs.declared.game.Game.{Game}
use Rattle.command_line.specs.Words.{Command}
use Rattle.answers.specs.declared.status.Status.TheVariants.{Yes, No}
use Rattle.encoding.specs.Variables.{var_count}
use Rattle.refutation.specs.Steps.{Step}
use Rattle.refutation_check.specs.Room.{KeepsRoom}
use Rattle.resume.specs.Kept.{resume_rows}
use Rattle.resume.specs.Resumable.{NoneResumes}
use Rattle.command_resume.specs.Audited.{IsVerdict, IsWellFormedAudit}
use Rattle.command_resume.specs.Seasons.{SaySeason}
use Rattle.robin_run.specs.Run.{NothingFails, Run, Writes}

pub record Promise (run : Run) (instance solution : List ℕ) (k : ℕ) (log : List ℕ) : Type 0 where
  -- A well-formed log over a season whose first k slots are played gets its verdict, where nothing fails.
  pub audited : (league : Instance) (played : List Game) (steps : List Step)
      → IsWellFormedAudit run.store instance solution k log league played steps
      → NothingFails run (instance ∷ solution ∷ log ∷ [])
      → Writes run (IsVerdict league played k run.room steps)
  -- A well-formed log is accepted or rejected only where its steps keep to the room that the words give.
  pub within : (league : Instance) (played : List Game) (steps : List Step)
      → IsWellFormedAudit run.store instance solution k log league played steps
      → (run.ended ≡ Yes) ⊎ (run.ended ≡ No)
      → KeepsRoom (resume_rows league (counts_of played) k) (var_count league) run.room steps
  -- Where a log is accepted, no accepted season keeps the played games.
  pub excluded : (league : Instance) (played : List Game)
      → SaySeason run.store instance solution league played
      → run.ended ≡ Yes
      → NoneResumes league (counts_of played) k

-- each run of `audit` keeps it
abbrev pub Audits : Run → Type 0
Audits run =
    (instance solution : List ℕ) (k : ℕ) (log : List ℕ)
    → run.command ≡ Some (Command.Audit instance solution k log)
    → Promise run instance solution k log
