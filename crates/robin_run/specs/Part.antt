-- What `part` promises: the league of some hard constraints of another.
use Rattle.std.specs.Prelude.{◌≡◌, ℕ, ◌≤◌, List, [], ◌∷◌, length, Some}
use Rattle.league.specs.Instance.{Instance}
use Rattle.robinx.specs.declared.instance.TheConstants.{INSTANCE_LIMIT}
use Rattle.command_line.specs.Words.{Command}
use Rattle.command_explain.specs.Parted.{IsPart}
use Rattle.robin_run.specs.Said.{SaysLeague}
use Rattle.robin_run.specs.Run.{NothingFails, Run, Writes}

pub record Promise (run : Run) (instance members : List ℕ) : Type 0 where
  -- The league of the hard constraints with these numbers is written, or the first number that no hard constraint has
  -- is refused, where nothing fails. How many terms the rows of the league have doesn't matter.
  pub parted : (league : Instance) (said : SaysLeague run.store instance league)
      → length said.bytes ≤ INSTANCE_LIMIT
      → NothingFails run (instance ∷ [])
      → Writes run (IsPart league members)

-- each run of `part` keeps it
abbrev pub Parts : Run → Type 0
Parts run =
    (instance members : List ℕ) → run.command ≡ Some (Command.Part instance members) → Promise run instance members
