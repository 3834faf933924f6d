-- What `resume --near` promises: a season that keeps the played games with how many of the others it changes, a log that
-- there is none, or a budget that is spent.
use Rattle.std.specs.Prelude.{◌≡◌, ℕ, List, [], ◌∷◌, Some}
use Rattle.robin_watch.specs.Limits.{IsKeptTo}
use Rattle.league.specs.Counts.{counts_of}
use Rattle.league.specs.Instance.{Instance}
use Rattle.league.specs.declared.game.Game.{Game}
use Rattle.robin_watch.specs.declared.budgets.Budgets.{Budgets}
use Rattle.command_line.specs.Words.{Command}
use Rattle.answers.specs.declared.status.Status.TheVariants.{Refuted, Yes}
use Rattle.resume.specs.Resumable.{NoneResumes}
use Rattle.command_resume.specs.Near.{IsKeptNear, IsNearBy}
use Rattle.command_resume.specs.Seasons.{IsWellFormedSeason, SaySeason}
use Rattle.robin_run.specs.Run.{NothingFails, Run, Writes}

pub record Promise (run : Run) (instance solution : List ℕ) (k : ℕ) (budgets : Budgets) : Type 0 where
  -- What is found near the old plan of a well-formed season whose first k slots are played is written, where nothing
  -- fails. The budget is the one that was set, or, where the run may be stopped, a lower one.
  pub neared : (league : Instance) (played : List Game)
      → IsWellFormedSeason run.store instance solution k league played
      → NothingFails run (instance ∷ solution ∷ [])
      → Writes run (IsNearBy league played k (IsKeptTo budgets.conflicts run.may_stop) run.may_stop)
  -- Where a season is written, it is accepted and keeps the played games, and the number behind it is that of the games
  -- to come that it changes. Where it is said to be settled, no single move that leaves the played slots alone betters it;
  -- else one does, unless the run may be stopped.
  pub changed : (league : Instance) (played : List Game)
      → SaySeason run.store instance solution league played
      → run.ended ≡ Yes
      → IsKeptNear league played k run.may_stop run.output
  -- Where the run ends with a refutation, no accepted season keeps the played games.
  pub unresumable : (league : Instance) (played : List Game)
      → SaySeason run.store instance solution league played
      → run.ended ≡ Refuted
      → NoneResumes league (counts_of played) k

-- each run of `resume --near` keeps it
abbrev pub ResumesNear : Run → Type 0
ResumesNear run =
    (instance solution : List ℕ) (k : ℕ) (budgets : Budgets)
    → run.command ≡ Some (Command.ResumeNear instance solution k budgets)
    → Promise run instance solution k budgets
