-- How the games of an assignment are gone through: by slot, home team and away team.
use Rattle.std.specs.Prelude.{ℕ, Bool, not, ◌&&◌, ◌==◌, if◌then◌else◌, List, [], ◌∷◌}
use Rattle.std.specs.List.{flat_map}
use Rattle.league.specs.Counts.{teams_of}
use Rattle.league.specs.declared.game.Game.{Game}
use Rattle.encoding.specs.Shadow.{game_of}
use Rattle.encoding.specs.Variables.{x_var}

-- the game of two different teams, where its variable is true
abbrev pub true_game : ℕ → (ℕ → Bool) → Game → List Game
true_game n values g =
    if not (g.away.0 == g.home.0) && values (x_var n g.home.0 g.away.0 g.slot.0) then g ∷ [] else []

-- the home games of a team in a slot whose variables are true
abbrev pub true_home_games : ℕ → (ℕ → Bool) → ℕ → ℕ → List Game
true_home_games n values s i = flat_map (λ j. true_game n values (game_of (i, j) s)) (teams_of n)

-- all games in a slot whose variables are true
abbrev pub true_games_in : ℕ → (ℕ → Bool) → ℕ → List Game
true_games_in n values s = flat_map (true_home_games n values s) (teams_of n)
