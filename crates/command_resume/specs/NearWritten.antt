-- What is written of what is found near an old plan.
use Rattle.std.specs.Prelude.{◌≡◌, ℕ, ◌++◌, Bool, List, Some, Ok}
use Rattle.league.specs.declared.game.Game.{Game}
use Rattle.robinx.specs.Texts.{solution_text}
use Rattle.answers.specs.Reply.{Answer}
use Rattle.answers.specs.declared.status.Status.TheVariants as status
use Rattle.refutation.specs.Logs.{log_of}
use Rattle.refutation.specs.Texts.{log_text}
use Rattle.resume.specs.Near.{changed, open_games}
use Rattle.resume.specs.declared.resumed.Resumed.{Resumed}
use Rattle.resume.specs.declared.resumed.Resumed.TheVariants.{Schedule, Refuted, Spent}
use Rattle.command_resume.specs.Near.{near_line}

-- a schedule with its objective, how many games to come it changes, and whether it is settled; or a log, which reads back
abbrev pub IsWritten : List Game → ℕ → Bool → Resumed → Answer → Type 0
IsWritten played k settled (Schedule games objective) answer =
    (answer.status ≡ status.Yes)
    × (answer.text
    ≡ solution_text games (Some (0, objective)) ++ near_line (changed k played games) (open_games k played) settled)
IsWritten played k settled (Refuted log) answer =
    (answer.status ≡ status.Refuted) × (answer.text ≡ log_text log) × (log_of answer.text ≡ Ok log)
IsWritten played k settled (Spent log) answer =
    (answer.status ≡ status.Spent) × (answer.text ≡ log_text log) × (log_of answer.text ≡ Ok log)
