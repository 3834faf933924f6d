-- What `values` promises: the season that a solver's values stand for, or the first row of the league that they miss.
use Rattle.std.specs.Prelude.{◌≡◌, ◌≤◌, ℕ, List, [], ◌∷◌, length, Some, Ok}
use Rattle.std.specs.Io.KnownBytes.{Appends}
use Rattle.robin_io.specs.Outside.{Output, Store}
use Rattle.league.specs.Accepted.{IsAccepted, objective}
use Rattle.league.specs.Counts.{counts_of}
use Rattle.league.specs.Instance.{Instance}
use Rattle.league.specs.declared.game.Game.{Game}
use Rattle.robinx.specs.Texts.{solution_text}
use Rattle.command_line.specs.Words.{Command}
use Rattle.answers.specs.declared.status.Status.TheVariants.{Yes}
use Rattle.rows.specs.Literals.{Literal}
use Rattle.encoding.specs.Encoding.{rows_of}
use Rattle.command_check.specs.Check.{most_log_bytes}
use Rattle.command_solve.specs.Solve.{IsWellFormedInstance}
use Rattle.opb_forms.specs.Values.{values_of}
use Rattle.command_rows.specs.Valued.{IsValued}
use Rattle.robin_run.specs.Said.{SaysLeague}
use Rattle.robin_run.specs.Run.{NothingFails, Run, Writes}

-- the bytes of a file within its limit are known, and say these literals
pub record SaysLiterals (store : Store) (values : List ℕ) (lits : List Literal) : Type 0 where
  pub bytes : List ℕ
  pub known : store.contents values ≡ Some bytes
  pub within : length bytes ≤ most_log_bytes
  pub says_lits : values_of bytes ≡ Ok lits

-- a season that the league accepts is written, with its objective
pub record IsAcceptedSeason (league : Instance) (output : Output) : Type 0 where
  pub games : List Game
  pub accepted : IsAccepted league (counts_of games)
  pub written : Appends output.before output.after (solution_text games (Some (0, objective league (counts_of games))))

pub record Promise (run : Run) (instance values : List ℕ) : Type 0 where
  -- What is found of a file of values over a league whose rows aren't too many is written, where nothing fails.
  pub valued : (league : Instance) (lits : List Literal)
      → IsWellFormedInstance run.store instance league
      → SaysLiterals run.store values lits
      → NothingFails run (instance ∷ values ∷ [])
      → Writes run (IsValued league (rows_of league) lits)
  -- Where the run ends well, a season that the league accepts is written, whatever the values.
  pub accepted : (league : Instance)
      → SaysLeague run.store instance league
      → run.ended ≡ Yes
      → IsAcceptedSeason league run.output

-- each run of `values` keeps it
abbrev pub JudgesValues : Run → Type 0
JudgesValues run =
    (instance values : List ℕ) → run.command ≡ Some (Command.Values instance values) → Promise run instance values
