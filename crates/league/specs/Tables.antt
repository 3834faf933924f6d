-- The tables in which the games of a schedule are counted.
use Rattle.std.specs.Prelude.{◌≡◌, ℕ, ◌≤◌, List, [], ◌∷◌}
use Rattle.league.specs.Counts.{counts_of, slots_of}
use Rattle.league.specs.Grid.{entry}
use Rattle.league.specs.Meetings.{games_of}
use Rattle.league.specs.Structure.{first_half}
use Rattle.league.specs.Venues.{games_on}
use Rattle.league.specs.declared.game.Game.{Game}
use Rattle.league.specs.declared.class.Side.TheVariants.{Both}
use Rattle.league.specs.declared.wrongs.Tables.{Tables}

-- no number is above this one
pub record AreAtMost (most : ℕ) (tables : Tables) : Type 0 where
  pub meetings : (i j : ℕ) → entry tables.meetings i j ≤ most
  pub cells : (i s : ℕ) → entry tables.cells i s ≤ most
  pub halves : (i j : ℕ) → entry tables.halves i j ≤ most

-- the tables of these games: by home and away team, by team and slot, and by home and away team in the first half
pub record AreTablesOf (n : ℕ) (games : List Game) (tables : Tables) : Type 0 where
  pub meetings : (i j : ℕ) → entry tables.meetings i j ≡ games_of (counts_of games) ((i, j) ∷ []) (slots_of n)
  pub cells : (i s : ℕ) → entry tables.cells i s ≡ games_on n (counts_of games) Both i s
  pub halves : (i j : ℕ) → entry tables.halves i j ≡ games_of (counts_of games) ((i, j) ∷ []) (first_half n)
