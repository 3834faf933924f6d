-- The games of one list in the first slots, and those of another from there on.
use Rattle.std.specs.Prelude.{ℕ, if◌then◌else◌, nat_lt, List, [], ◌∷◌, ◌++◌}
use Rattle.std.specs.List.{flat_map}
use Rattle.league.specs.declared.game.Game.{Game}

-- a game that takes place before slot k, and one from slot k on
abbrev pub game_before : ℕ → Game → List Game
game_before k game = if nat_lt game.slot.0 k then game ∷ [] else []

abbrev pub game_from : ℕ → Game → List Game
game_from k game = if nat_lt game.slot.0 k then [] else game ∷ []

-- the games of one list before slot k, and those of another from slot k on
abbrev pub merged_games : ℕ → List Game → List Game → List Game
merged_games k first second = flat_map (game_before k) first ++ flat_map (game_from k) second
