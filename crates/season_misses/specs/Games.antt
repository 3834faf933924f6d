-- Games in words, with the names of teams.
use Rattle.std.specs.Prelude.{ℕ, List, [], ◌∷◌, ◌++◌, codes, decimal}
use Rattle.std.specs.List.{flat_map}
use Rattle.league.specs.declared.game.Game.{Game}
use Rattle.season_misses.specs.Phrases.{name_of}

-- a game with its slot: `Ajax - Brug (0)`
abbrev pub game_text : List (List ℕ) → Game → List ℕ
game_text names g =
    name_of names g.home.0
    ++ (codes " - " ++ (name_of names g.away.0 ++ (codes " (" ++ (decimal g.slot.0 ++ codes ")"))))

-- a game after another
abbrev pub next_game : List (List ℕ) → Game → List ℕ
next_game names g = codes ", " ++ game_text names g

-- games in a row: `Ajax - Brug (0), Dam - Club (1)`
abbrev pub games_text : List (List ℕ) → List Game → List ℕ
games_text names [] = []
games_text names (g ∷ games) = game_text names g ++ flat_map (next_game names) games

-- the same behind a colon, where there are any
abbrev pub games_after : List (List ℕ) → List Game → List ℕ
games_after names [] = []
games_after names (g ∷ games) = codes ": " ++ games_text names (g ∷ games)
