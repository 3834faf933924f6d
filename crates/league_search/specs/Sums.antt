-- Rows that sums give behind other rows, and logs that begin with sums.
use Rattle.std.specs.Prelude.{◌≡◌, ℕ, true, List, [], ◌∷◌, ◌++◌, Ok}
use Rattle.std.specs.List.{All}
use Rattle.rows.specs.Rows.{Row}
use Rattle.refutation.specs.Following.{judged}
use Rattle.refutation.specs.Steps.{Step, is_linear}
use Rattle.propagate.specs.Trails.{KnowsVariables}

-- Each of the steps follows from the rows and those of the steps before it. With the rows of all steps behind them they
-- are `more`.
abbrev pub Give : List Row → ℕ → List Step → List Row → Type 0
Give rows vars [] more = more ≡ rows
Give rows vars (step ∷ steps) more =
    (row : Row) × ((judged rows vars step ≡ Ok row) × Give (rows ++ row ∷ []) vars steps more)

-- The steps of a log over rows: first sums, and behind them those of a search over the rows and those that the sums
-- give.
pub record IsBehind (rows : List Row) (vars : ℕ) (steps : List Step) : Type 0 where
  pub sums : List Step
  pub more : List Row
  pub search : List Step
  pub parts : steps ≡ sums ++ search
  pub linear : All (λ step. is_linear step ≡ true) sums
  pub give : Give rows vars sums more

-- sums that give rows behind these, of the same variables
pub record IsLonger (rows : List Row) (vars : ℕ) (sums : List Step) (more : List Row) : Type 0 where
  pub linear : All (λ step. is_linear step ≡ true) sums
  pub give : Give rows vars sums more
  pub known : All (KnowsVariables vars) more
