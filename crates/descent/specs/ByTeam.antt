-- The games of an edit, listed by team.
use Rattle.std.specs.Prelude.{◌≡◌, ℕ, List, [], ◌∷◌, ◌++◌, length, slice_index_or, slice_set}
use Rattle.std.specs.List.{All, Contains}
use Rattle.league.specs.declared.game.Game.{Game}

-- some games, and the number of games that there is room for
pub record GameRoom : Type 0 where
  pub list : List Game
  pub room : ℕ

-- no games, and no room
abbrev pub no_games : GameRoom
no_games = record { list = []; room = 0 }

-- the games listed at a team
abbrev pub games_at : List GameRoom → ℕ → List Game
games_at lists t = (slice_index_or lists t no_games).list

-- with one game more at a team
abbrev pub with_game : List GameRoom → ℕ → Game → List GameRoom
with_game lists t g =
    slice_set lists t (record { list = games_at lists t ++ g ∷ []; room = (slice_index_or lists t no_games).room })

-- some games of a league of n teams, each listed at its home team and at its away team, and no others
pub record AreByTeam (n : ℕ) (games : List Game) (lists : List GameRoom) : Type 0 where
  pub teams : length lists ≡ n
  pub home : All (λ g. Contains (games_at lists g.home.0) g) games
  pub away : All (λ g. Contains (games_at lists g.away.0) g) games
  pub only : All (λ l. All (Contains games) l.list) lists
