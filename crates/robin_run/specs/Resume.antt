-- What `resume` promises: a season that keeps the played games, a log that there is none, or a budget that is spent.
use Rattle.std.specs.Prelude.{◌≡◌, ℕ, List, [], ◌∷◌, Option, Some}
use Rattle.robin_watch.specs.Limits.{IsKeptTo}
use Rattle.league.specs.Counts.{counts_of}
use Rattle.league.specs.Instance.{Instance}
use Rattle.league.specs.declared.game.Game.{Game}
use Rattle.command_line.specs.Words.{Command}
use Rattle.answers.specs.declared.status.Status.TheVariants.{Refuted, Yes}
use Rattle.resume.specs.Resumable.{NoneResumes}
use Rattle.command_resume.specs.Resumed.{IsFoundBy, IsKeptSeason}
use Rattle.command_resume.specs.Seasons.{IsWellFormedSeason, SaySeason}
use Rattle.robin_run.specs.Run.{NothingFails, Run, Writes}

pub record Promise (run : Run) (instance solution : List ℕ) (k : ℕ) (conflicts : Option ℕ) : Type 0 where
  -- What is found of a well-formed season whose first k slots are played is written, where nothing fails. The budget is
  -- the one that was set, or, where the run may be stopped, a lower one.
  pub resumed : (league : Instance) (played : List Game)
      → IsWellFormedSeason run.store instance solution k league played
      → NothingFails run (instance ∷ solution ∷ [])
      → Writes run (IsFoundBy league played k (IsKeptTo conflicts run.may_stop))
  -- Where a season is written, it is accepted and keeps the played games.
  pub kept : (league : Instance) (played : List Game)
      → SaySeason run.store instance solution league played
      → run.ended ≡ Yes
      → IsKeptSeason league played k run.output
  -- Where the run ends with a refutation, no accepted season keeps the played games.
  pub unresumable : (league : Instance) (played : List Game)
      → SaySeason run.store instance solution league played
      → run.ended ≡ Refuted
      → NoneResumes league (counts_of played) k

-- each run of `resume` keeps it
abbrev pub Resumes : Run → Type 0
Resumes run =
    (instance solution : List ℕ) (k : ℕ) (conflicts : Option ℕ)
    → run.command ≡ Some (Command.Resume instance solution k conflicts)
    → Promise run instance solution k conflicts
