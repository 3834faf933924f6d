-- A single round robin: each two teams meet once, at either's venue, in n - 1 slots in each of which each team plays
-- once.
use Rattle.std.specs.Prelude.{◌≡◌, ◌≢◌, ℕ, ◌-◌, ◌<◌, List, [], ◌∷◌}
use Rattle.std.specs.List.{All}
use Rattle.league.specs.Counts.{counts_of}
use Rattle.league.specs.Meetings.{games_of}
use Rattle.league.specs.Structure.{first_half}
use Rattle.league.specs.Venues.{games_on}
use Rattle.league.specs.declared.game.Game.{Game}
use Rattle.league.specs.declared.class.Side.TheVariants.{Both}

-- a game of a single round robin of n teams: two different teams in a slot below n - 1
pub record IsSingleGame (n : ℕ) (g : Game) : Type 0 where
  pub home : g.home.0 < n
  pub away : g.away.0 < n
  pub differ : g.home.0 ≢ g.away.0
  pub slot : g.slot.0 < n - 1

-- a single round robin of n teams: each two teams have exactly one game, and each team has exactly one in each slot
pub record IsSingleRoundRobin (n : ℕ) (games : List Game) : Type 0 where
  pub fit : All (IsSingleGame n) games
  pub pairs : (i j : ℕ) → i < j → j < n → games_of (counts_of games) ((i, j) ∷ (j, i) ∷ []) (first_half n) ≡ 1
  pub cells : (i s : ℕ) → i < n → s < n - 1 → games_on n (counts_of games) Both i s ≡ 1
