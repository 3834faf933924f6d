-- What is kept of some meetings: a table of them.
use Rattle.std.specs.Prelude.{◌≡◌, ℕ, ◌+◌, ◌*◌, ◌<◌, ◌≤◌, Bool, false, List, length, slice_index_or}
use Rattle.std.specs.List.{All}
use Rattle.rule_core.specs.Meetings.{is_listed}

-- for each home team and each away team, in rows of n, whether their meeting is one of these
pub record IsTableOf (n : ℕ) (meetings : List (ℕ × ℕ)) (listed : List Bool) : Type 0 where
  pub size : length listed ≡ n * n
  pub each : (home away : ℕ) → home < n → away < n
      → slice_index_or listed (home * n + away) false ≡ is_listed meetings home away

-- at most 1600 meetings of teams of the league, with their table
pub record AreTabled (n : ℕ) (meetings : List (ℕ × ℕ)) (listed : List Bool) : Type 0 where
  pub at_most : n ≤ 40
  pub few : length meetings ≤ 1600
  pub teams : All (λ p. (p.0 < n) × (p.1 < n)) meetings
  pub tabled : IsTableOf n meetings listed
