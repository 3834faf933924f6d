-- What `audit` answers: its stages in their order, and the verdict on a log over resume rows.
use Rattle.std.specs.Prelude.{◌≡◌, ℕ, ◌≤◌, List, length, codes, Option, Some, Ok}
use Rattle.robin_io.specs.Outside.{Store}
use Rattle.league.specs.Counts.{counts_of}
use Rattle.league.specs.Instance.{Instance}
use Rattle.league.specs.declared.game.Game.{Game}
use Rattle.robinx.specs.Pieces.{pieces}
use Rattle.robinx.specs.InstanceFile.{instance_of}
use Rattle.robinx.specs.SolutionFile.{solution_of}
use Rattle.robinx.specs.declared.instance.TheConstants.{INSTANCE_LIMIT, SOLUTION_LIMIT}
use Rattle.answers.specs.Reply.{Answer}
use Rattle.answers.specs.Stages.{◌>>=◌, IsFile, Outcome, reads}
use Rattle.answers.specs.declared.status.Status.TheVariants.{Yes}
use Rattle.encoding.specs.Variables.{var_count}
use Rattle.refutation.specs.Steps.{Step}
use Rattle.refutation.specs.Logs.{log_of}
use Rattle.refutation_check.specs.Room.{KeepsRoom}
use Rattle.command_check.specs.Check.{IsVerdictOver, LogPassesRoom, most_log_bytes, says_log}
use Rattle.resume.specs.Kept.{resume_rows}
use Rattle.resume.specs.Resumable.{NoneResumes}
use Rattle.command_resume.specs.Seasons.{IsWellFormedSeason, plays}

-- The verdict on a log over the resume rows. It is said only where the steps of the log keep to a limit. Where it says
-- yes, no schedule that the league accepts keeps the played games.
pub record IsVerdict
    (league : Instance)
    (played : List Game)
    (k : ℕ)
    (room : Option ℕ)
    (steps : List Step)
    (answer : Answer)
    : Type 0 where
  pub verdict : IsVerdictOver (resume_rows league (counts_of played) k) (var_count league) steps answer
  pub within : KeepsRoom (resume_rows league (counts_of played) k) (var_count league) room steps
  pub none : answer.status ≡ Yes → NoneResumes league (counts_of played) k

-- `audit`, over what a store shows, where the steps of the log may take so many bytes: the whole log is read before the
-- verdict, so a fault of form comes before any verdict
abbrev pub audited : Store → Option ℕ → List ℕ → List ℕ → ℕ → List ℕ → Outcome
audited store room instance solution k log = do
  season ← plays store instance solution k
  third ← reads store (codes "log") log most_log_bytes season.bytes
  steps ← says_log (log_of third)
  IsVerdict season.league season.played k room steps

-- ---- want of room

-- Over the resume rows of the season that the two other files say, some first steps of the log pass a limit.
pub record LacksRoom (store : Store) (room : Option ℕ) (instance solution : List ℕ) (k : ℕ) (log : List ℕ) : Type 0 where
  pub first : List ℕ
  pub second : List ℕ
  pub first_file : IsFile (store.contents instance) INSTANCE_LIMIT first
  pub second_file : IsFile (store.contents solution) SOLUTION_LIMIT second
  pub league : Instance
  pub played : List Game
  pub says_league : instance_of (pieces first) ≡ Ok league
  pub says_played : solution_of league.n (pieces second) ≡ Ok played
  pub passes : LogPassesRoom (store.contents log) (resume_rows league (counts_of played) k) (var_count league) room

-- ---- a run

-- a well-formed season, and the file of a log whose bytes are known, within its limit, and which says these steps
pub record IsWellFormedAudit
    (store : Store)
    (instance solution : List ℕ)
    (k : ℕ)
    (log : List ℕ)
    (league : Instance)
    (played : List Game)
    (steps : List Step)
    : Type 0 where
  pub season : IsWellFormedSeason store instance solution k league played
  pub third : List ℕ
  pub known : store.contents log ≡ Some third
  pub within : length third ≤ most_log_bytes
  pub says_steps : log_of third ≡ Ok steps
