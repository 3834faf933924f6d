-- What is written of what is shown of an accepted schedule.
use Rattle.std.specs.Prelude.{◌≡◌, ◌<◌, ◌≤◌, ◌⊎◌, ℕ, List, [], Some, Ok}
use Rattle.std.specs.List.{All}
use Rattle.robinx.specs.Texts.{solution_text}
use Rattle.answers.specs.Reply.{Answer}
use Rattle.answers.specs.declared.status.Status.TheVariants as statuses
use Rattle.league.specs.Instance.{Instance}
use Rattle.league.specs.declared.game.Game.{Game}
use Rattle.refutation.specs.Logs.{log_of}
use Rattle.refutation.specs.Steps.{NamesRows, Step}
use Rattle.refutation.specs.Texts.{log_text}
use Rattle.refutation.specs.Writable.{HasShortLines}
use Rattle.bounds.specs.Certificates.{certificate_of, certificate_text}
use Rattle.floors.specs.Floors.{IsFloor}
use Rattle.floors.specs.declared.floor.Floor.{Floor}
use Rattle.command_prove.specs.Floor.{reached_text}
use Rattle.command_prove.specs.Prove.{spent_text}
use Rattle.bounds.specs.declared.proved.Proved.{Proved}
use Rattle.bounds.specs.declared.proved.Proved.TheVariants.{Least, Better, Spent}

-- the hints of a log name rows, so that it can be written
abbrev pub CanBeWritten : Proved → Type 0
CanBeWritten (Least objective log) = All NamesRows log
CanBeWritten (Better games objective) = Unit {0}
CanBeWritten (Spent log) = All NamesRows log

-- a certificate is written
pub record TellsLeast (objective : ℕ) (steps : List Step) (answer : Answer) : Type 0 where
  pub status : answer.status ≡ statuses.Yes
  pub text : answer.text ≡ certificate_text objective steps
  pub reads_back : HasShortLines steps → (objective ≡ 0 → steps ≡ [])
      → certificate_of answer.text ≡ Ok (record { bound = objective; log = steps })

-- the line of the schedule's objective, a certificate of a floor and a log are written
pub record TellsSpent (cost : ℕ) (floor : Floor) (steps : List Step) (answer : Answer) : Type 0 where
  pub status : answer.status ≡ statuses.Spent
  pub text : answer.text ≡ spent_text cost floor.bound floor.log steps
  pub floor_reads_back : certificate_of (certificate_text floor.bound floor.log)
      ≡ Ok (record { bound = floor.bound; log = floor.log })
  pub reads_back : HasShortLines steps → log_of (log_text steps) ≡ Ok steps

-- what is written beside a floor: the floor's certificate alone where it is no less than the schedule's objective, and
-- else all three
abbrev pub TellsBeside : ℕ → Floor → List Step → Answer → Type 0
TellsBeside cost floor steps answer =
    ((cost ≤ floor.bound) × TellsLeast floor.bound floor.log answer)
    ⊎ ((floor.bound < cost) × TellsSpent cost floor steps answer)

-- what is written of a log that is spent
abbrev pub TellsFloored : Instance → ℕ → List Step → Answer → Type 0
TellsFloored league cost steps answer = (floor : Floor) × IsFloor league floor × TellsBeside cost floor steps answer

-- a better schedule is written, with its objective
abbrev pub TellsBetter : List Game → ℕ → Answer → Type 0
TellsBetter games objective answer =
    (answer.status ≡ statuses.Better) × (answer.text ≡ solution_text games (Some (0, objective)))

-- what is written of each, beside the schedule's objective
abbrev pub Tells : Instance → ℕ → Proved → Answer → Type 0
Tells league cost (Least objective log) answer = TellsLeast objective log answer
Tells league cost (Better games objective) answer = TellsBetter games objective answer
Tells league cost (Spent log) answer = TellsFloored league cost log answer

-- ---- where a floor is asked for

-- the line of the schedule's objective and a certificate of a floor are written
pub record TellsReached (cost bound : ℕ) (steps : List Step) (answer : Answer) : Type 0 where
  pub status : answer.status ≡ statuses.Yes
  pub text : answer.text ≡ reached_text cost bound steps
  pub reads_back : HasShortLines steps → (bound ≡ 0 → steps ≡ [])
      → certificate_of (certificate_text bound steps) ≡ Ok (record { bound = bound; log = steps })

-- what is written beside a floor: its certificate behind the objective where it is no less than the number that is
-- sought, and else the log too
abbrev pub TellsNear : ℕ → ℕ → Floor → List Step → Answer → Type 0
TellsNear cost sought floor steps answer =
    ((sought ≤ floor.bound) × TellsReached cost floor.bound floor.log answer)
    ⊎ ((floor.bound < sought) × TellsSpent cost floor steps answer)

-- what is written of a log that is spent
abbrev pub TellsMissed : Instance → ℕ → ℕ → List Step → Answer → Type 0
TellsMissed league cost sought steps answer =
    (floor : Floor) × IsFloor league floor × TellsNear cost sought floor steps answer

-- what is written of each, beside the schedule's objective
abbrev pub TellsFloor : Instance → ℕ → ℕ → Proved → Answer → Type 0
TellsFloor league cost sought (Least objective log) answer = TellsReached cost objective log answer
TellsFloor league cost sought (Better games objective) answer = TellsBetter games objective answer
TellsFloor league cost sought (Spent log) answer = TellsMissed league cost sought log answer
