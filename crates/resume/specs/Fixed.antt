-- The constraints of a league.
use Rattle.std.specs.Prelude.{◌≤◌, ℕ, IsTrue, List, length}
use Rattle.std.specs.List.{All}
use Rattle.league.specs.Instance.{class_fits}
use Rattle.league.specs.declared.class.Constraint.{Constraint}

-- constraints may be those of a league of n teams
pub record AreConstraints (n : ℕ) (constraints : List Constraint) : Type 0 where
  pub fit : All (λ c. IsTrue (class_fits n c.class)) constraints
  pub few : length constraints ≤ 20000
