-- What `resume` answers: its stages in their order, and what is found of a league whose first slots are played.
use Rattle.std.specs.Prelude.{◌≡◌, ℕ, ◌⊎◌, true, false, List, Option, Some, Ok}
use Rattle.std.specs.Io.KnownBytes.{Appends}
use Rattle.robin_io.specs.Outside.{Output, Store}
use Rattle.league.specs.Accepted.{IsAccepted, objective}
use Rattle.league.specs.Counts.{counts_of}
use Rattle.league.specs.Instance.{Instance}
use Rattle.league.specs.Order.{IsInOrder}
use Rattle.league.specs.declared.game.Game.{Game}
use Rattle.robinx.specs.Pieces.{pieces}
use Rattle.robinx.specs.SolutionFile.{solution_of}
use Rattle.robinx.specs.Texts.{solution_text}
use Rattle.answers.specs.Reply.{Answer}
use Rattle.answers.specs.Stages.{◌>>=◌, Outcome}
use Rattle.answers.specs.declared.status.Status.TheVariants.{Yes, Refuted, Spent}
use Rattle.encoding.specs.Variables.{var_count}
use Rattle.refutation.specs.Steps.{Step}
use Rattle.refutation.specs.Logs.{log_of}
use Rattle.refutation.specs.Texts.{log_text}
use Rattle.refutation.specs.Verdict.{verdict_of}
use Rattle.refutation.specs.declared.verdict.Verdict.TheVariants.{Accepted}
use Rattle.break_counts.specs.BreakCounts.{are_few}
use Rattle.break_counts.specs.Sums.{AllowsTooFew}
use Rattle.clause_search.specs.Answers.{IsSpentAt}
use Rattle.resume.specs.Kept.{resume_rows}
use Rattle.resume.specs.Resumable.{NoneResumes}
use Rattle.resume.specs.Answers.{IsResumedSeason, RefutesResuming}
use Rattle.command_resume.specs.Seasons.{plays}

-- ---- what is found

-- A schedule that the league accepts and that keeps the played games is written, in order, with its objective, and reads
-- back as these games.
pub record IsPlanned (league : Instance) (played : List Game) (k : ℕ) (answer : Answer) : Type 0 where
  pub games : List Game
  pub season : IsResumedSeason league played k games (objective league (counts_of games))
  pub status : answer.status ≡ Yes
  pub text : answer.text ≡ solution_text games (Some (0, objective league (counts_of games)))
  pub reads_back : solution_of league.n (pieces answer.text) ≡ Ok games

-- A log that refutes the resume rows is written, and reads back as it: so no schedule that the league accepts keeps the
-- played games.
pub record IsExcluded (league : Instance) (played : List Game) (k : ℕ) (conflicts : Option ℕ) (answer : Answer)
    : Type 0 where
  pub steps : List Step
  pub refutes : RefutesResuming league played k conflicts steps
  pub status : answer.status ≡ Refuted
  pub text : answer.text ≡ log_text steps
  pub reads_back : log_of answer.text ≡ Ok steps

-- A log that is spent at the budget over the resume rows is written, and reads back as it. The budget is below 3 to the
-- number of variables, so a greater one, or none, is never spent.
pub record IsBudgetSpent (league : Instance) (played : List Game) (k : ℕ) (conflicts : Option ℕ) (answer : Answer)
    : Type 0 where
  pub steps : List Step
  pub spent : IsSpentAt (resume_rows league (counts_of played) k) (var_count league) conflicts steps
  pub status : answer.status ≡ Spent
  pub text : answer.text ≡ log_text steps
  pub reads_back : log_of answer.text ≡ Ok steps

-- just the games of the old plan are written, in order
pub record IsOldPlan (league : Instance) (played : List Game) (answer : Answer) : Type 0 where
  pub games : List Game
  pub same : counts_of games ≡ counts_of played
  pub in_order : IsInOrder games
  pub status : answer.status ≡ Yes
  pub text : answer.text ≡ solution_text games (Some (0, objective league (counts_of games)))

-- What is found of a league whose first k slots are played, within a budget of conflicts. Where the league accepts all
-- games of the played list as they are, these are the answer.
pub record IsFound (league : Instance) (played : List Game) (k : ℕ) (conflicts : Option ℕ) (answer : Answer)
    : Type 0 where
  pub found :
      IsPlanned league played k answer
      ⊎ (IsExcluded league played k conflicts answer ⊎ IsBudgetSpent league played k conflicts answer)
  pub plan : IsAccepted league (counts_of played) → IsOldPlan league played answer

-- A league that allows its teams too few breaks, by one hard constraint or by some together, is counted out, whatever is
-- played: a log that is accepted over the resume rows is written, and reads back as it. So no schedule that the league
-- accepts keeps the played games.
pub record IsCountedOut (league : Instance) (played : List Game) (k : ℕ) (answer : Answer) : Type 0 where
  pub few : AllowsTooFew league
  pub steps : List Step
  pub accepted : verdict_of (resume_rows league (counts_of played) k) (var_count league) steps ≡ Accepted
  pub none : NoneResumes league (counts_of played) k
  pub status : answer.status ≡ Refuted
  pub text : answer.text ≡ log_text steps
  pub reads_back : log_of answer.text ≡ Ok steps

-- The league is counted out, whatever the limits; or each of its hard constraints allows its teams enough breaks, and
-- this is found, by a search that keeps to one of the limits.
abbrev pub IsFoundBy : Instance → List Game → ℕ → (Option ℕ → Type 0) → Outcome
IsFoundBy league played k limits answer =
    IsCountedOut league played k answer
    ⊎ ((are_few league ≡ false)
    × ((conflicts : Option ℕ) × limits conflicts × IsFound league played k conflicts answer))

-- ---- stages

-- `resume`, over what a store shows
abbrev pub resumed : Store → List ℕ → List ℕ → ℕ → (Option ℕ → Type 0) → Outcome
resumed store instance solution k limits = do
  season ← plays store instance solution k
  IsFoundBy season.league season.played k limits

-- ---- a run

-- A schedule that the league accepts and that keeps the played games is written whole, in order, with its objective, and
-- reads back as these games.
pub record IsKeptSeason (league : Instance) (played : List Game) (k : ℕ) (output : Output) : Type 0 where
  pub games : List Game
  pub season : IsResumedSeason league played k games (objective league (counts_of games))
  pub written : Appends output.before output.after (solution_text games (Some (0, objective league (counts_of games))))
  pub reads_back : solution_of league.n (pieces (solution_text games (Some (0, objective league (counts_of games)))))
      ≡ Ok games
