-- What an accepted log proves of the rows.
use Rattle.std.specs.Prelude.{◌≡◌, ℕ, Bool, List}
use Rattle.rows.specs.Rows.{Row, SatisfiesAll}
use Rattle.refutation.specs.Steps.{Step}
use Rattle.refutation.specs.Verdict.{verdict_of}
use Rattle.refutation.specs.declared.verdict.Verdict.TheVariants.{Accepted}

-- no values of the variables meet all rows
abbrev pub HaveNoSolution : List Row → Type 0
HaveNoSolution rows = (values : ℕ → Bool) → SatisfiesAll values rows → ⊥

-- soundness: the rows over which a log is accepted have no solution
abbrev pub AcceptedLogsRefute : Type 0
AcceptedLogsRefute =
    (rows : List Row) (vars : ℕ) (steps : List Step) → verdict_of rows vars steps ≡ Accepted → HaveNoSolution rows
