-- What `trial` promises: a season of a made league, with a summary.
use Rattle.std.specs.Prelude.{◌≡◌, ◌≢◌, ℕ, ◌≤◌, [], Some}
use Rattle.robin_watch.specs.declared.budgets.Budgets.{Budgets}
use Rattle.command_line.specs.Words.{Command}
use Rattle.answers.specs.declared.status.Status.TheVariants.{Refuted, Spent}
use Rattle.encoding.specs.Encoding.{encoding_size}
use Rattle.instance_gen.specs.Draws.{seeded}
use Rattle.instance_gen.specs.Made.{made_league}
use Rattle.command_solve.specs.Trial.{IsTrialBy}
use Rattle.robin_run.specs.Run.{NothingFails, Run, Writes}
use Rattle.encoding.specs.Limit.{most_terms}

pub record Promise (run : Run) (n seed : ℕ) (budgets : Budgets) : Type 0 where
  -- Where the rows of the made league aren't too many, seven lines and a season that it accepts are written, where
  -- nothing fails. Its descent may make as many moves as were set, or, where the run may be stopped, fewer.
  pub tried : encoding_size (made_league n (seeded seed)) ≤ most_terms
      → NothingFails run []
      → Writes run (IsTrialBy n seed (made_league n (seeded seed)) budgets.moves run.may_stop)
  -- The run never ends with a refutation or a spent budget.
  pub found : (run.ended ≢ Refuted) × (run.ended ≢ Spent)

-- each run of `trial` keeps it
abbrev pub Tries : Run → Type 0
Tries run =
    (n seed : ℕ) (budgets : Budgets) → run.command ≡ Some (Command.Trial n seed budgets) → Promise run n seed budgets
