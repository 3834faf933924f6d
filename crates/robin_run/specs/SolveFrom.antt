-- What `solve` promises where it begins at a season that is given: a season that costs no more than an accepted start.
use Rattle.std.specs.Prelude.{◌≡◌, ◌≢◌, ℕ, List, [], ◌∷◌, None, Some}
use Rattle.std.specs.Io.KnownBytes.{Appends}
use Rattle.robin_io.specs.Outside.{Output}
use Rattle.robin_watch.specs.Limits.{IsKeptTo}
use Rattle.league.specs.Accepted.{IsAccepted, objective}
use Rattle.league.specs.Counts.{counts_of}
use Rattle.league.specs.Instance.{Instance}
use Rattle.league.specs.Structure.{IsRoundRobin}
use Rattle.league.specs.declared.game.Game.{Game}
use Rattle.robin_watch.specs.declared.budgets.Budgets.{Budgets}
use Rattle.command_line.specs.Words.{Command}
use Rattle.answers.specs.Reply.{Answer}
use Rattle.answers.specs.declared.status.Status.TheVariants.{Refuted, Spent, Yes}
use Rattle.encoding.specs.Encoding.{rows_of}
use Rattle.decoding.specs.Excluded.{NoneAccepted}
use Rattle.command_resume.specs.Seasons.{SaySeason}
use Rattle.command_check.specs.Validate.{IsWellFormedPair}
use Rattle.command_solve.specs.From.{IsFoundFrom, IsNoStart, IsScheduleWithin, IsWellFormedStart}
use Rattle.robin_run.specs.Said.{SaysLeague}
use Rattle.robin_run.specs.Run.{NothingFails, Run, Writes}

-- the season that is written is accepted, and costs no more than the start, by a descent of the moves that were kept to
pub record IsNoWorse (league : Instance) (start : List Game) (moves : ℕ) (may_stop : Type 0) (output : Output) : Type 0 where
  pub kept : ℕ
  pub is_kept : IsKeptTo (Some moves) may_stop (Some kept)
  pub answer : Answer
  pub season : IsScheduleWithin league kept may_stop (objective league (counts_of start)) answer
  pub written : Appends output.before output.after answer.text

pub record Promise (run : Run) (instance solution : List ℕ) (budgets : Budgets) : Type 0 where
  -- A season that is no double round robin of the league is refused: it is judged, where nothing fails, and no more.
  pub judged : (league : Instance) (season : List Game)
      → IsWellFormedPair run.store instance solution league season
      → (IsRoundRobin league.n league.phased (counts_of season) → ⊥)
      → NothingFails run (instance ∷ solution ∷ [])
      → Writes run (IsNoStart league season)
  -- What is found from a well-formed start, accepted or not, is written, where nothing fails: what `solve` finds of the
  -- league, by budgets that it kept to, and where the league accepts the start, a season that costs no more.
  pub solved : (league : Instance) (start : List Game)
      → IsWellFormedStart run.store instance solution league start
      → NothingFails run (instance ∷ solution ∷ [])
      → Writes run (IsFoundFrom league start budgets run.may_stop (rows_of league))
  -- Where the run ends well and the league accepts the start, the season that is written costs no more.
  pub no_worse : (league : Instance) (start : List Game)
      → SaySeason run.store instance solution league start
      → IsAccepted league (counts_of start)
      → run.ended ≡ Yes
      → IsNoWorse league start budgets.moves run.may_stop run.output
  -- Where the run ends with a refutation, the league accepts no list of games.
  pub unsolvable : (league : Instance)
      → SaysLeague run.store instance league
      → run.ended ≡ Refuted
      → NoneAccepted league
  -- Without a budget of conflicts, and where nothing may stop the run, it never ends with a budget that is spent.
  pub complete : budgets.conflicts ≡ None
      → (run.may_stop → ⊥)
      → run.ended ≢ Spent

-- each run of `solve` from a season keeps it
abbrev pub SolvesFrom : Run → Type 0
SolvesFrom run =
    (instance solution : List ℕ) (budgets : Budgets) → run.command ≡ Some (Command.SolveFrom instance solution budgets)
    → Promise run instance solution budgets
