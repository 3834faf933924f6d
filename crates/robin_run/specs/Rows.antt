-- What `rows` promises: the rows of a league, written for other solvers.
use Rattle.std.specs.Prelude.{◌≡◌, ℕ, ◌≤◌, List, [], ◌∷◌, length, Some}
use Rattle.std.specs.Io.KnownBytes.{Appends}
use Rattle.league.specs.Instance.{Instance}
use Rattle.robinx.specs.declared.instance.TheConstants.{INSTANCE_LIMIT}
use Rattle.command_line.specs.Words.{Command}
use Rattle.command_line.specs.declared.goal.Goal.{Goal}
use Rattle.answers.specs.declared.status.Status.TheVariants.{Yes}
use Rattle.opb_forms.specs.Texts.{opb_text}
use Rattle.command_rows.specs.Rowed.{league_rows, system_of}
use Rattle.robin_run.specs.Said.{SaysLeague}
use Rattle.robin_run.specs.Run.{NothingFails, Run, Writes}

pub record Promise (run : Run) (instance : List ℕ) (goal : Goal) : Type 0 where
  -- The rows of the league of a file that ask for a season are written, where nothing fails; or that they have too
  -- many terms.
  pub rowed : (league : Instance) (said : SaysLeague run.store instance league)
      → length said.bytes ≤ INSTANCE_LIMIT
      → NothingFails run (instance ∷ [])
      → Writes run (league_rows goal league)
  -- Where the run ends well, these rows are written.
  pub whole : (league : Instance)
      → SaysLeague run.store instance league
      → run.ended ≡ Yes
      → Appends run.output.before run.output.after (opb_text (system_of goal league))

-- each run of `rows` keeps it
abbrev pub WritesRows : Run → Type 0
WritesRows run =
    (instance : List ℕ) (goal : Goal) → run.command ≡ Some (Command.Rows instance goal)
    → Promise run instance goal
