-- Pairs of teams, the earlier first, and the two meetings that each has.
use Rattle.std.specs.Prelude.{ℕ, ◌<◌, List, [], ◌∷◌}

-- two teams of a league of n teams, the earlier first
pub record IsPair (n : ℕ) (p : ℕ × ℕ) : Type 0 where
  pub order : p.0 < p.1
  pub within : p.1 < n

-- the game of each at home to the other
abbrev pub both_meetings : ℕ × ℕ → List (ℕ × ℕ)
both_meetings p = p ∷ (p.1, p.0) ∷ []
