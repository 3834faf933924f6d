-- What `show` promises: the season of one file is shown with the names that the other gives its league, and judged by it;
-- or it is said in words, with these names, what the league of a file demands.
use Rattle.std.specs.Prelude.{◌≡◌, ℕ, ◌≤◌, List, [], ◌∷◌, length, Ok, Option, Some}
use Rattle.robinx.specs.Pieces.{pieces}
use Rattle.league.specs.Instance.{Instance}
use Rattle.league.specs.declared.game.Game.{Game}
use Rattle.robinx.specs.Names.{Names}
use Rattle.robinx.specs.NamesFile.{names_of}
use Rattle.robinx.specs.declared.instance.TheConstants.{INSTANCE_LIMIT}
use Rattle.command_line.specs.Words.{Command}
use Rattle.answers.specs.Reply.{Answer}
use Rattle.command_check.specs.Validate.{IsWellFormedPair}
use Rattle.command_show.specs.Demands.{AreDemands}
use Rattle.command_show.specs.Show.{IsShown, form_text}
use Rattle.command_show.specs.declared.form.Form.{Form}
use Rattle.command_show.specs.declared.form.Form.TheVariants.{Text, Csv}
use Rattle.robin_run.specs.Run.{NothingFails, Run, Writes}
use Rattle.robin_run.specs.Said.{SaysLeague}

-- an answer that shows these games of a league in a form, with the names that the bytes of an instance file give
pub record IsShownNamed (league : Instance) (file : List ℕ) (form : Form) (games : List Game) (answer : Answer)
    : Type 0 where
  pub names : Names
  pub are_names : names_of league.n (pieces file) ≡ Ok names
  pub shown : IsShown league (form_text form league names) games answer

pub record Promise (run : Run) (instance solution : List ℕ) (form : Form) : Type 0 where
  -- Two well-formed files are shown, where nothing fails.
  pub shown : (league : Instance) (games : List Game)
      → (files : IsWellFormedPair run.store instance solution league games)
      → NothingFails run (instance ∷ solution ∷ [])
      → Writes run (IsShownNamed league files.first form games)

-- an answer that says what a league demands, with the names that the bytes of an instance file give: all of it, or the
-- constraints with the numbers of a list
pub record AreDemandsNamed (league : Instance) (file : List ℕ) (members : Option (List ℕ)) (answer : Answer) : Type 0 where
  pub names : Names
  pub are_names : names_of league.n (pieces file) ≡ Ok names
  pub demands : AreDemands league members names answer

pub record DemandsPromise (run : Run) (instance : List ℕ) (members : Option (List ℕ)) : Type 0 where
  -- What the constraints demand is written, or the first number that no constraint has is refused, where nothing fails.
  pub told : (league : Instance) (said : SaysLeague run.store instance league)
      → length said.bytes ≤ INSTANCE_LIMIT
      → NothingFails run (instance ∷ [])
      → Writes run (AreDemandsNamed league said.bytes members)

-- each run of `show` keeps it, as a text or for a spreadsheet, or of what a league demands
pub record Shows (run : Run) : Type 0 where
  pub text : (instance solution : List ℕ) (most width : ℕ)
      → run.command ≡ Some (Command.Show instance solution most width)
      → Promise run instance solution (Text most width)
  pub sheet : (instance solution : List ℕ) → run.command ≡ Some (Command.Sheet instance solution)
      → Promise run instance solution Csv
  pub demands : (instance : List ℕ) (members : Option (List ℕ))
      → run.command ≡ Some (Command.Demands instance members) → DemandsPromise run instance members
