-- What `make` promises: the league that a seed makes.
use Rattle.std.specs.Prelude.{◌≡◌, ℕ, [], Some}
use Rattle.command_line.specs.Words.{Command}
use Rattle.command_solve.specs.MadeInstance.{IsMade}
use Rattle.robin_run.specs.Run.{NothingFails, Run, Writes}

pub record Promise (run : Run) (n seed : ℕ) : Type 0 where
  -- The made league is written, where nothing fails, and reads back as this league. It has n + 17 constraints, and
  -- accepts the season of the circle method.
  pub made : NothingFails run [] → Writes run (IsMade n seed)

-- each run of `make` keeps it
abbrev pub Makes : Run → Type 0
Makes run = (n seed : ℕ) → run.command ≡ Some (Command.Make n seed) → Promise run n seed
