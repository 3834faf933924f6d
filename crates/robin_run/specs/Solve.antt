-- What `solve` promises: a season that the league accepts, a log that refutes the league, or a budget that is spent.
use Rattle.std.specs.Prelude.{◌≡◌, ◌≢◌, ℕ, List, [], ◌∷◌, None, Some}
use Rattle.league.specs.Instance.{Instance}
use Rattle.robin_watch.specs.declared.budgets.Budgets.{Budgets}
use Rattle.command_line.specs.Words.{Command}
use Rattle.answers.specs.declared.status.Status.TheVariants.{Refuted, Spent}
use Rattle.encoding.specs.Encoding.{rows_of}
use Rattle.decoding.specs.Excluded.{NoneAccepted}
use Rattle.command_solve.specs.Solve.{IsFoundBy, IsWellFormedInstance}
use Rattle.robin_run.specs.Said.{SaysLeague}
use Rattle.robin_run.specs.Run.{NothingFails, Run, Writes}

pub record Promise (run : Run) (instance : List ℕ) (budgets : Budgets) : Type 0 where
  -- What is found of a well-formed league whose rows aren't too many is written, where nothing fails: an accepted season
  -- with its objective and the descent that led to it, an accepted log, or a log that is spent at the budget. The
  -- budgets are those that were set, or, where the run may be stopped, lower ones.
  pub solved : (league : Instance)
      → IsWellFormedInstance run.store instance league
      → NothingFails run (instance ∷ [])
      → Writes run (IsFoundBy league budgets run.may_stop (rows_of league))
  -- Where the run ends with a refutation, the league accepts no list of games.
  pub unsolvable : (league : Instance)
      → SaysLeague run.store instance league
      → run.ended ≡ Refuted
      → NoneAccepted league
  -- Without a budget of conflicts, and where nothing may stop the run, it never ends with a budget that is spent.
  pub complete : budgets.conflicts ≡ None
      → (run.may_stop → ⊥)
      → run.ended ≢ Spent

-- each run of `solve` keeps it
abbrev pub Solves : Run → Type 0
Solves run =
    (instance : List ℕ) (budgets : Budgets) → run.command ≡ Some (Command.Solve instance budgets)
    → Promise run instance budgets
