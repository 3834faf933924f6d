-- An edit of the games of a league, and the counts to which it led.
use Rattle.std.specs.Prelude.{◌≡◌, ℕ, ◌<◌, List, ◌++◌, length}
use Rattle.std.specs.List.{All}
use Rattle.league.specs.Counts.{Counts}
use Rattle.league.specs.Instance.{IsGame}
use Rattle.league.specs.declared.game.Game.{Game}
use Rattle.rule_core.specs.Table.{Table, table_counts}
use Rattle.descent.specs.ByTeam.{AreByTeam, GameRoom}
use Rattle.descent.specs.Tallies.{with_games}

-- the games taken out and put in, and the counts after that
pub record Changed : Type 0 where
  pub out : List Game
  pub into : List Game
  pub table : Table

-- all games of a change
abbrev pub games_of : Changed → List Game
games_of change = change.out ++ change.into

-- a change led from these counts to its own
abbrev pub LeadsFrom : Counts → Changed → Type 0
LeadsFrom m change = with_games (table_counts change.table) change.out ≡ with_games m change.into

-- the games fit a league of n teams, and the lists by team, if there are any, hold these games
pub record AreListed (n : ℕ) (out into : List Game) (by_team : List GameRoom) : Type 0 where
  pub out_fit : All (IsGame n) out
  pub into_fit : All (IsGame n) into
  pub listed : 0 < length by_team → AreByTeam n (out ++ into) by_team
