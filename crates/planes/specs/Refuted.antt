-- What is said of a log that a search finds.
use Rattle.std.specs.Prelude.{◌≡◌, ℕ, List}
use Rattle.std.specs.List.{All}
use Rattle.rows.specs.Rows.{Row}
use Rattle.refutation.specs.Steps.{NamesRows, Step}
use Rattle.refutation.specs.Verdict.{verdict_of}
use Rattle.refutation.specs.declared.verdict.Verdict.TheVariants.{Accepted}
use Rattle.refutation_check.specs.Soundness.{HaveNoSolution}

-- The log is accepted over the rows, so that no values satisfy them. It names rows from 1 on, as its text needs it.
pub record IsRefutation (rows : List Row) (vars : ℕ) (log : List Step) : Type 0 where
  pub accepted : verdict_of rows vars log ≡ Accepted
  pub unsatisfied : HaveNoSolution rows
  pub named : All NamesRows log
