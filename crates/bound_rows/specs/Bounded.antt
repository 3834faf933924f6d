-- A league whose bound rows were counted, and a league with a bound on the objective.
use Rattle.std.specs.Prelude.{◌≡◌, ℕ, ◌^◌, ◌<◌, ◌≤◌, List}
use Rattle.std.specs.List.{All}
use Rattle.league.specs.Instance.{Instance, IsInstance}
use Rattle.rows.specs.Rows.{Row}
use Rattle.bound_rows.specs.BoundRows.{bound_rows, bound_size, bound_vars}
use Rattle.encoding.specs.Limit.{most_terms}

-- The bound rows of a league have this number of terms, and these are few enough to be written. The number is the same
-- for every bound. Each penalty has 32 bits.
pub record IsCounted (league : Instance) (terms : ℕ) : Type 0 where
  pub instance : IsInstance league
  pub count : terms ≡ bound_size league
  pub few : bound_size league ≤ most_terms
  pub penalties : All (λ c. c.penalty < 2 ^ 32) league.constraints

-- a league, and a bound on the objective
pub record Bounded : Type 0 where
  pub league : Instance
  pub bound : ℕ

-- the bound rows of a league and a bound, which are few enough, and how many variables they have
pub record IsSystem (league : Instance) (bound : ℕ) (rows : List Row) (vars : ℕ) : Type 0 where
  pub instance : IsInstance league
  pub size : bound_size league ≤ most_terms
  pub rows_are : rows ≡ bound_rows league bound
  pub vars_are : vars ≡ bound_vars league
  pub few : vars ≤ 40130960
