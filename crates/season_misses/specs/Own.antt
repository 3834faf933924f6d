-- The games of each team, and what is kept of a season.
use Rattle.std.specs.Prelude.{◌≡◌, ℕ, List, map}
use Rattle.std.specs.List.{filter, range_with_len}
use Rattle.league.specs.Counts.{counts_of}
use Rattle.league.specs.declared.class.Side.TheVariants.{Both}
use Rattle.league.specs.declared.game.Game.{Game}
use Rattle.rule_core.specs.Table.{table_counts}
use Rattle.rule_core.specs.Touched.{plays_on}
use Rattle.season_misses.specs.declared.season.Season.{Season}

-- the games of team i, at home and away
abbrev pub own_games : List Game → ℕ → List Game
own_games games i = filter (λ g. plays_on Both g i) games

-- the games of each of n teams
abbrev pub games_by_team : ℕ → List Game → List (List Game)
games_by_team n games = map (own_games games) (range_with_len 0 n)

-- the counts of a season, and the games of each team, are those of its games
pub record IsSeason (season : Season) : Type 0 where
  pub counted : table_counts season.cells.now ≡ counts_of season.games.now
  pub own : season.own.now ≡ games_by_team season.cells.now.n season.games.now
