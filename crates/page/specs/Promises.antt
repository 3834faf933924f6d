-- What a page may rely on: promises of `run`, over files that lie in memory.
use Rattle.std.specs.Prelude.{◌≡◌, ◌<◌, ◌≤◌, ℕ, List, Option, Some, Ok, length, take}
use Rattle.league.specs.Instance.{Instance}
use Rattle.league.specs.declared.game.Game.{Game}
use Rattle.robinx.specs.Pieces.{pieces}
use Rattle.robinx.specs.InstanceFile.{instance_of}
use Rattle.robinx.specs.SolutionFile.{solution_of}
use Rattle.robinx.specs.declared.instance.TheConstants.{INSTANCE_LIMIT, SOLUTION_LIMIT}
use Rattle.robin_watch.specs.declared.budgets.Budgets.{Budgets}
use Rattle.command_line.specs.Words.{Command}
use Rattle.command_line.specs.Words.Command.{Check, Solve, Validate}
use Rattle.answers.specs.Reply.{Answer}
use Rattle.answers.specs.Stages.{Outcome}
use Rattle.answers.specs.Status.{status_code}
use Rattle.decoding.specs.Excluded.{NoneAccepted}
use Rattle.command_check.specs.Validate.{IsJudgement}
use Rattle.page.specs.Files.{file_named}
use Rattle.page.specs.declared.files.Files.{Files}

-- an answer of this kind is shown: its whole text stands at the front of the room, and the status is its own
pub record Shows (kind : Outcome) (status written : ℕ) (room : List ℕ) : Type 0 where
  pub answer : Answer
  pub of_kind : kind answer
  pub status_is : status ≡ status_code answer.status
  pub text_is : take written room ≡ answer.text

-- the file of this name says this league
abbrev pub SaysLeague : Files → List ℕ → Instance → Type 0
SaysLeague files name league = instance_of (pieces (file_named files name)) ≡ Ok league

pub record Promises (command : Option Command) (files : Files) (status written : ℕ) (room : List ℕ) : Type 0 where
  -- `validate` of a league and a season within their limits shows the judgement, unless memory ran out or the room is too
  -- small.
  pub judged : (instance solution : List ℕ) (league : Instance) (games : List Game)
      → command ≡ Some (Validate instance solution)
      → length (file_named files instance) ≤ INSTANCE_LIMIT → SaysLeague files instance league
      → length (file_named files solution) ≤ SOLUTION_LIMIT
      → solution_of league.n (pieces (file_named files solution)) ≡ Ok games
      → status < 7
      → Shows (IsJudgement league games) status written room
  -- Where `check` accepts a log, the league accepts no season.
  pub refuted : (instance log : List ℕ) (league : Instance)
      → command ≡ Some (Check instance log)
      → SaysLeague files instance league
      → status ≡ 0
      → NoneAccepted league
  -- Where `solve` says that there is none, the league accepts no season.
  pub unsolvable : (instance : List ℕ) (budgets : Budgets) (league : Instance)
      → command ≡ Some (Solve instance budgets)
      → SaysLeague files instance league
      → status ≡ 4
      → NoneAccepted league
