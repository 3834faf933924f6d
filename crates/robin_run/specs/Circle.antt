-- What `circle` promises: the season of the circle method.
use Rattle.std.specs.Prelude.{◌≡◌, ℕ, [], Some}
use Rattle.command_line.specs.Words.{Command}
use Rattle.command_solve.specs.Circle.{circle_season}
use Rattle.robin_run.specs.Run.{NothingFails, Run, Writes}

pub record Promise (run : Run) (n : ℕ) : Type 0 where
  -- The schedule of the circle method for n teams is written in order, where nothing fails.
  pub seasoned : NothingFails run [] → Writes run (λ answer. answer ≡ circle_season n)

-- each run of `circle` keeps it
abbrev pub WritesCircle : Run → Type 0
WritesCircle run = (n : ℕ) → run.command ≡ Some (Command.Circle n) → Promise run n
