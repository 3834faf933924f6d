-- What `prove` promises: a certificate that no season is better, a better season, or a budget that is spent and a
-- floor. And where a floor is asked for, the same of that number.
use Rattle.std.specs.Prelude.{◌≡◌, ℕ, ◌<◌, ◌≤◌, min, List, [], ◌∷◌, Option, None, Some, Ok}
use Rattle.std.specs.Io.KnownBytes.{Appends}
use Rattle.std.specs.List.{All}
use Rattle.robin_io.specs.Outside.{Output}
use Rattle.robin_watch.specs.Limits.{IsKeptTo}
use Rattle.league.specs.Accepted.{IsAccepted, objective}
use Rattle.league.specs.Counts.{counts_of}
use Rattle.league.specs.Instance.{Instance, IsGame}
use Rattle.league.specs.declared.game.Game.{Game}
use Rattle.command_line.specs.Words.{Command}
use Rattle.answers.specs.declared.status.Status.TheVariants.{Better, Spent, Yes}
use Rattle.refutation.specs.Steps.{Step}
use Rattle.refutation.specs.declared.verdict.Verdict.TheVariants.{Accepted}
use Rattle.robinx.specs.Texts.{solution_text}
use Rattle.bound_rows.specs.Faithful.{IsLowerBound}
use Rattle.command_prove.specs.Bound.{bound_verdict}
use Rattle.bounds.specs.Certificates.{certificate_of, certificate_text}
use Rattle.command_prove.specs.Floor.{IsFloorShownBy, reached_text}
use Rattle.command_prove.specs.Prove.{IsShownBy, IsWellFormedCase, spent_text}
use Rattle.command_resume.specs.Seasons.{SaySeason}
use Rattle.robin_run.specs.Run.{NothingFails, Run, Writes}

-- The games are accepted, and no accepted schedule has a lower objective. The certificate that is written states their
-- objective, and its log is accepted by the verdict of `bound`.
pub record IsUnbettered (league : Instance) (games : List Game) (output : Output) : Type 0 where
  pub steps : List Step
  pub accepted : IsAccepted league (counts_of games)
  pub least : IsLowerBound league (objective league (counts_of games))
  pub certified : bound_verdict league (objective league (counts_of games)) steps ≡ Accepted
  pub written : Appends output.before output.after (certificate_text (objective league (counts_of games)) steps)

-- The games are accepted. The schedule that is written, of games of the league, is accepted too, with a lower
-- objective, which is written beside it.
pub record IsBettered (league : Instance) (games : List Game) (output : Output) : Type 0 where
  pub better : List Game
  pub accepted : IsAccepted league (counts_of games)
  pub better_accepted : IsAccepted league (counts_of better)
  pub fit : All (IsGame league.n) better
  pub lower : objective league (counts_of better) < objective league (counts_of games)
  pub written : Appends output.before output.after (solution_text better (Some (0, objective league (counts_of better))))

-- The games are accepted, and no accepted schedule has an objective below a floor, which is below theirs. Behind the
-- objective of the games a certificate of the floor is written, which is accepted by the verdict of `bound` and reads
-- back, and then a log.
pub record IsFloored (league : Instance) (games : List Game) (output : Output) : Type 0 where
  pub bound : ℕ
  pub floor : List Step
  pub steps : List Step
  pub accepted : IsAccepted league (counts_of games)
  pub least : IsLowerBound league bound
  pub below : bound < objective league (counts_of games)
  pub certified : bound_verdict league bound floor ≡ Accepted
  pub reads_back : certificate_of (certificate_text bound floor) ≡ Ok (record { bound = bound; log = floor })
  pub written : Appends output.before output.after (spent_text (objective league (counts_of games)) bound floor steps)

pub record Promise (run : Run) (instance solution : List ℕ) (conflicts : Option ℕ) : Type 0 where
  -- What is shown of the season of a well-formed case is written, where nothing fails: the report of `validate` where
  -- the season isn't accepted, a certificate, a better season, or a floor below it and a log that is spent at the budget,
  -- while no single move betters the season. Where the run may be stopped, the budget may be lower than the one that was set,
  -- and a move may better the season.
  pub proved : (league : Instance) (games : List Game)
      → IsWellFormedCase run.store instance solution league games → NothingFails run (instance ∷ solution ∷ [])
      → Writes run (IsShownBy league (IsKeptTo conflicts run.may_stop) run.may_stop games)
  -- Where the season is called least, no accepted season has a lower objective.
  pub unbettered : (league : Instance) (games : List Game)
      → SaySeason run.store instance solution league games → run.ended ≡ Yes → IsUnbettered league games run.output
  -- Where the season is bettered, the one that is written is accepted, with a lower objective.
  pub bettered : (league : Instance) (games : List Game)
      → SaySeason run.store instance solution league games → run.ended ≡ Better → IsBettered league games run.output
  -- Where the budget is spent, no accepted season has an objective below the floor that is written, and this season's is
  -- above it.
  pub floored : (league : Instance) (games : List Game)
      → SaySeason run.store instance solution league games → run.ended ≡ Spent → IsFloored league games run.output

-- ---- where a floor is asked for

-- The games are accepted, and no accepted schedule has an objective below a floor, which is no less than the number that
-- was asked for, or than their objective. Behind their objective a certificate of the floor is written, whose log is
-- accepted by the verdict of `bound`.
pub record IsReached (league : Instance) (asked : ℕ) (games : List Game) (output : Output) : Type 0 where
  pub bound : ℕ
  pub steps : List Step
  pub accepted : IsAccepted league (counts_of games)
  pub reached : min asked (objective league (counts_of games)) ≤ bound
  pub least : IsLowerBound league bound
  pub certified : bound_verdict league bound steps ≡ Accepted
  pub written : Appends output.before output.after (reached_text (objective league (counts_of games)) bound steps)

-- The games are accepted. The schedule that is written, of games of the league, is accepted too. It costs less than they
-- do and less than the number that was asked for, and its objective is written beside it.
pub record IsUndercut (league : Instance) (asked : ℕ) (games : List Game) (output : Output) : Type 0 where
  pub better : List Game
  pub accepted : IsAccepted league (counts_of games)
  pub better_accepted : IsAccepted league (counts_of better)
  pub fit : All (IsGame league.n) better
  pub lower : objective league (counts_of better) < objective league (counts_of games)
  pub under : objective league (counts_of better) < asked
  pub written : Appends output.before output.after (solution_text better (Some (0, objective league (counts_of better))))

-- The games are accepted, and no accepted schedule has an objective below another floor, which is below the number that
-- was asked for and below their objective. Behind their objective a certificate of that floor is written, which is
-- accepted by the verdict of `bound` and reads back, and then a log.
pub record IsMissed (league : Instance) (asked : ℕ) (games : List Game) (output : Output) : Type 0 where
  pub bound : ℕ
  pub floor : List Step
  pub steps : List Step
  pub accepted : IsAccepted league (counts_of games)
  pub least : IsLowerBound league bound
  pub below : bound < min asked (objective league (counts_of games))
  pub certified : bound_verdict league bound floor ≡ Accepted
  pub reads_back : certificate_of (certificate_text bound floor) ≡ Ok (record { bound = bound; log = floor })
  pub written : Appends output.before output.after (spent_text (objective league (counts_of games)) bound floor steps)

pub record FloorPromise (run : Run) (instance solution : List ℕ) (asked : ℕ) (conflicts : Option ℕ) : Type 0 where
  -- What is shown of a well-formed case is written, where nothing fails: the report of `validate` where the season isn't
  -- accepted, a certificate, a cheaper season, or a lower floor and a log that is spent at the budget. Where the run may
  -- be stopped, the budget may be lower than the one that was set.
  pub shown : (league : Instance) (games : List Game)
      → IsWellFormedCase run.store instance solution league games → NothingFails run (instance ∷ solution ∷ [])
      → Writes run (IsFloorShownBy league asked (IsKeptTo conflicts run.may_stop) games)
  -- Where the floor is called proved, no accepted season costs less than it, or than this season.
  pub reached : (league : Instance) (games : List Game)
      → SaySeason run.store instance solution league games → run.ended ≡ Yes
      → IsReached league asked games run.output
  -- Where a better season is found, it is accepted, and costs less than the floor and than this season.
  pub undercut : (league : Instance) (games : List Game)
      → SaySeason run.store instance solution league games → run.ended ≡ Better
      → IsUndercut league asked games run.output
  -- Where the budget is spent, no accepted season costs less than the lower floor that is written.
  pub missed : (league : Instance) (games : List Game)
      → SaySeason run.store instance solution league games → run.ended ≡ Spent
      → IsMissed league asked games run.output

-- ---- runs

-- each run of `prove` keeps it, without a floor or with one
pub record Proves (run : Run) : Type 0 where
  pub season : (instance solution : List ℕ) (conflicts : Option ℕ)
      → run.command ≡ Some (Command.Prove instance solution None conflicts) → Promise run instance solution conflicts
  pub floor : (instance solution : List ℕ) (asked : ℕ) (conflicts : Option ℕ)
      → run.command ≡ Some (Command.Prove instance solution (Some asked) conflicts)
      → FloorPromise run instance solution asked conflicts
