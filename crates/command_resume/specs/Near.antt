-- What `resume --near` answers: a season with the number of games that it changes, or a log as `resume` does.
use Rattle.std.specs.Prelude.{◌≡◌, ℕ, ◌⊎◌, Bool, true, false, if◌then◌else◌, List, ◌++◌, Option, Some, Ok, codes, decimal}
use Rattle.std.specs.Io.KnownBytes.{Appends}
use Rattle.robin_io.specs.Outside.{Output, Store}
use Rattle.league.specs.Accepted.{IsAccepted, objective}
use Rattle.league.specs.Counts.{counts_of}
use Rattle.league.specs.Instance.{Instance}
use Rattle.league.specs.Order.{IsInOrder}
use Rattle.league.specs.declared.game.Game.{Game}
use Rattle.robinx.specs.Pieces.{pieces}
use Rattle.robinx.specs.SolutionFile.{solution_of}
use Rattle.robinx.specs.Texts.{solution_text}
use Rattle.answers.specs.Reply.{Answer}
use Rattle.answers.specs.Stages.{◌>>=◌, Outcome}
use Rattle.answers.specs.declared.status.Status.TheVariants.{Yes}
use Rattle.break_counts.specs.BreakCounts.{are_few}
use Rattle.resume.specs.Nearing.{IsNearest}
use Rattle.resume.specs.Answers.{IsResumedSeason}
use Rattle.resume.specs.Near.{changed, open_games}
use Rattle.command_resume.specs.Resumed.{IsBudgetSpent, IsCountedOut, IsExcluded}
use Rattle.command_resume.specs.Seasons.{plays}

-- the comment behind a season: how many games are changed, of how many that are still to come, and whether it is settled
abbrev pub near_line : ℕ → ℕ → Bool → List ℕ
near_line changes games settled =
    codes "<!-- changed="
    ++ (decimal changes
    ++ (codes " of="
    ++ (decimal games ++ (if settled then codes " settled=yes -->\n" else codes " settled=no -->\n"))))

-- the text of games, in order, with their objective, and how many of the old ones they change
abbrev pub near_text : Instance → List Game → ℕ → List Game → Bool → List ℕ
near_text league played k games settled =
    solution_text games (Some (0, objective league (counts_of games)))
    ++ near_line (changed k played games) (open_games k played) settled

-- A schedule that the league accepts and that keeps the played games is written, in order, with its objective, and how
-- many of the games to come it changes. Where it says that it is settled, no single move that leaves the played slots
-- alone leads to a schedule that the league accepts and that changes fewer games, or as many at a lower cost. Else one
-- does, unless the run may be stopped. The text reads back as these games.
pub record IsNearSeason (league : Instance) (played : List Game) (k : ℕ) (may_stop : Type 0) (answer : Answer)
    : Type 0 where
  pub games : List Game
  pub settled : Bool
  pub season : IsResumedSeason league played k games (objective league (counts_of games))
  pub nearest : settled ≡ true → IsNearest league k played (counts_of games)
  pub open_yet : settled ≡ false → may_stop ⊎ (IsNearest league k played (counts_of games) → ⊥)
  pub status : answer.status ≡ Yes
  pub text : answer.text ≡ near_text league played k games settled
  pub reads_back : solution_of league.n (pieces answer.text) ≡ Ok games

-- just the games of the old plan are written, in order, of which none is changed
pub record IsUnchanged (league : Instance) (played : List Game) (k : ℕ) (answer : Answer) : Type 0 where
  pub games : List Game
  pub settled : Bool
  pub same : counts_of games ≡ counts_of played
  pub in_order : IsInOrder games
  pub status : answer.status ≡ Yes
  pub text : answer.text ≡ solution_text games (Some (0, objective league (counts_of games)))
      ++ near_line 0 (open_games k played) settled

-- What is found near the old plan, within a budget of conflicts. Where the league accepts all games of the played list
-- as they are, these are the answer.
pub record IsNear (league : Instance) (played : List Game) (k : ℕ) (conflicts : Option ℕ) (may_stop : Type 0)
    (answer : Answer) : Type 0 where
  pub found :
      IsNearSeason league played k may_stop answer
      ⊎ (IsExcluded league played k conflicts answer ⊎ IsBudgetSpent league played k conflicts answer)
  pub plan : IsAccepted league (counts_of played) → IsUnchanged league played k answer

-- The league is counted out, whatever the limits; or each of its hard constraints allows its teams enough breaks, and
-- this is found near the old plan, by a search that keeps to one of the limits, in a run that may be stopped where
-- `may_stop` says so.
abbrev pub IsNearBy : Instance → List Game → ℕ → (Option ℕ → Type 0) → Type 0 → Outcome
IsNearBy league played k limits may_stop answer =
    IsCountedOut league played k answer
    ⊎ ((are_few league ≡ false)
    × ((conflicts : Option ℕ) × limits conflicts × IsNear league played k conflicts may_stop answer))

-- `resume --near`, over what a store shows
abbrev pub neared : Store → List ℕ → List ℕ → ℕ → (Option ℕ → Type 0) → Type 0 → Outcome
neared store instance solution k limits may_stop = do
  season ← plays store instance solution k
  IsNearBy season.league season.played k limits may_stop

-- ---- a run

-- such a schedule is written whole, with how many of the games to come it changes, and reads back as these games
pub record IsKeptNear (league : Instance) (played : List Game) (k : ℕ) (may_stop : Type 0) (output : Output)
    : Type 0 where
  pub games : List Game
  pub settled : Bool
  pub season : IsResumedSeason league played k games (objective league (counts_of games))
  pub nearest : settled ≡ true → IsNearest league k played (counts_of games)
  pub open_yet : settled ≡ false → may_stop ⊎ (IsNearest league k played (counts_of games) → ⊥)
  pub written : Appends output.before output.after (near_text league played k games settled)
  pub reads_back : solution_of league.n (pieces (near_text league played k games settled)) ≡ Ok games
