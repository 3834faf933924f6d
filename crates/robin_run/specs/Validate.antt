-- What `validate` promises: the season of one file is judged by the league of the other.
use Rattle.std.specs.Prelude.{◌≡◌, ℕ, List, [], ◌∷◌, Some}
use Rattle.league.specs.Instance.{Instance}
use Rattle.league.specs.declared.game.Game.{Game}
use Rattle.command_line.specs.Words.{Command}
use Rattle.command_check.specs.Validate.{IsJudgement, IsWellFormedPair}
use Rattle.robin_run.specs.Run.{NothingFails, Run, Writes}

pub record Promise (run : Run) (instance solution : List ℕ) : Type 0 where
  -- Two well-formed files are judged, where nothing fails.
  pub judged : (league : Instance) (games : List Game)
      → IsWellFormedPair run.store instance solution league games
      → NothingFails run (instance ∷ solution ∷ [])
      → Writes run (IsJudgement league games)

-- each run of `validate` keeps it
abbrev pub Validates : Run → Type 0
Validates run =
    (instance solution : List ℕ) → run.command ≡ Some (Command.Validate instance solution)
    → Promise run instance solution
