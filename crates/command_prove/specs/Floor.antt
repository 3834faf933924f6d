-- What `prove` answers where it is asked for a floor: that no accepted schedule costs less than a number. Where the
-- schedule itself costs less, the number is its objective.
use Rattle.std.specs.Prelude.{◌≡◌, ℕ, ◌-◌, ◌<◌, ◌≤◌, ◌^◌, ◌⊎◌, min, List, ◌++◌, length, Option, None, Some, Ok}
use Rattle.league.specs.Accepted.{IsAccepted, objective}
use Rattle.league.specs.Counts.{counts_of}
use Rattle.league.specs.Instance.{Instance}
use Rattle.league.specs.declared.game.Game.{Game}
use Rattle.answers.specs.Reply.{Answer}
use Rattle.answers.specs.Stages.{Outcome}
use Rattle.answers.specs.declared.status.Status.TheVariants.{Yes, Spent}
use Rattle.refutation.specs.Logs.{log_of}
use Rattle.refutation.specs.Steps.{Step}
use Rattle.refutation.specs.Texts.{log_text}
use Rattle.refutation.specs.Writable.{HasShortLines}
use Rattle.refutation.specs.declared.verdict.Verdict.TheVariants.{Accepted}
use Rattle.clause_search.specs.News.{IsSpent}
use Rattle.bound_rows.specs.BoundRows.{bound_rows, bound_vars}
use Rattle.bound_rows.specs.Faithful.{IsLowerBound}
use Rattle.bounds.specs.Certificates.{certificate_of, certificate_text}
use Rattle.command_prove.specs.Bound.{bound_verdict}
use Rattle.command_prove.specs.Prove.{IsBettered, IsCertified, IsRejected, IsShownBy, objective_line, spent_text}

-- the line of the schedule's objective, and a certificate of a floor
abbrev pub reached_text : ℕ → ℕ → List Step → List ℕ
reached_text cost bound steps = objective_line cost ++ certificate_text bound steps

-- No accepted schedule has an objective below a floor, which is no less than the number that was asked for, or than the
-- schedule's objective. Behind the objective a certificate of the floor is written, which is accepted by the verdict of
-- `bound`. Where no line of it passes the limit of a line, it reads back.
pub record IsReached (league : Instance) (asked : ℕ) (games : List Game) (answer : Answer) : Type 0 where
  pub bound : ℕ
  pub steps : List Step
  pub accepted : IsAccepted league (counts_of games)
  pub reached : min asked (objective league (counts_of games)) ≤ bound
  pub least : IsLowerBound league bound
  pub proves : bound_verdict league bound steps ≡ Accepted
  pub status : answer.status ≡ Yes
  pub text : answer.text ≡ reached_text (objective league (counts_of games)) bound steps
  pub reads_back : HasShortLines steps
      → certificate_of (certificate_text bound steps) ≡ Ok (record { bound = bound; log = steps })

-- a schedule that costs less than the number that was asked for betters the schedule, and is written
abbrev pub IsUndercut : Instance → ℕ → List Game → Outcome
IsUndercut league asked games answer =
    (found : IsBettered league games answer) × (objective league (counts_of found.better) < asked)

-- The budget is spent. Behind the schedule's objective a certificate of a floor is written, which is below the number
-- that was asked for and below the objective, and then a log that is spent at the budget over the bound rows of one less
-- than the lower of these two. If no line of the log passes the limit of a line, its text reads back as the log.
pub record IsMissed (league : Instance) (asked : ℕ) (conflicts : Option ℕ) (games : List Game) (answer : Answer)
    : Type 0 where
  pub steps : List Step
  pub bound : ℕ
  pub floor : List Step
  pub accepted : IsAccepted league (counts_of games)
  pub below : bound < min asked (objective league (counts_of games))
  pub budget : conflicts ≡ Some (length steps)
  pub spent : IsSpent (length steps) (bound_rows league (min asked (objective league (counts_of games)) - 1))
      (bound_vars league) steps
  pub few : length steps < 3 ^ bound_vars league
  pub certified : IsCertified league bound floor
  pub status : answer.status ≡ Spent
  pub text : answer.text ≡ spent_text (objective league (counts_of games)) bound floor steps
  pub reads_back : HasShortLines steps → log_of (log_text steps) ≡ Ok steps

-- what is shown of a floor that is asked for, by a search that learns at most so many clauses
abbrev pub IsFloorShown : Instance → ℕ → Option ℕ → List Game → Outcome
IsFloorShown league asked conflicts games answer =
    IsRejected league games answer
    ⊎ (IsReached league asked games answer
    ⊎ (IsUndercut league asked games answer ⊎ IsMissed league asked conflicts games answer))

-- that, by a search that keeps to one of these limits
abbrev pub IsFloorShownBy : Instance → ℕ → (Option ℕ → Type 0) → List Game → Outcome
IsFloorShownBy league asked limits games answer =
    (conflicts : Option ℕ) × limits conflicts × IsFloorShown league asked conflicts games answer

-- what `prove` shows of a schedule: that none costs less than it, where no floor is asked for, or that none costs less
-- than the floor
abbrev pub IsShownWith : Option ℕ → (Option ℕ → Type 0) → Type 0 → Instance → List Game → Outcome
IsShownWith None limits may_stop league games answer = IsShownBy league limits may_stop games answer
IsShownWith (Some asked) limits may_stop league games answer = IsFloorShownBy league asked limits games answer
