-- What holds of a draft of an instance at all times.
use Rattle.std.specs.Prelude.{◌≡◌, ◌≤◌, ◌%◌, ℕ, List, length, true}
use Rattle.std.specs.List.{All}
use Rattle.league.specs.Instance.{class_fits}
use Rattle.league.specs.declared.class.Constraint.{Constraint}

-- there are n teams at least, none or as many as a league may have, and the constraints so far are few and fit
pub record IsDraft (n : ℕ) (teams : List ℕ) (constraints : List Constraint) : Type 0 where
  pub even : n % 2 ≡ 0
  pub at_most : n ≤ 40
  pub known : n ≤ length teams
  pub few : length constraints ≤ 20000
  pub fit : All (λ c. class_fits n c.class ≡ true) constraints
