-- The canonical schedule of n teams, n even (the circle method): in each slot the last team meets the team of that
-- slot, and the other teams below n - 1, in a circle, meet those that are as far from the slot's team the other way
-- round.
use Rattle.std.specs.Prelude.{ℕ, ◌+◌, ◌-◌, ◌/◌, ◌%◌, Bool, true, false, ◌==◌, List, ◌∷◌, ◌++◌, map}
use Rattle.std.specs.List.{flat_map, range_with_len}
use Rattle.league.specs.declared.game.Game.{Game}

-- k steps on from team s in a circle of m teams
abbrev pub steps_on : ℕ → ℕ → ℕ → ℕ
steps_on m s k = (s + k) % m

-- k steps back from team s in a circle of m teams
abbrev pub steps_back : ℕ → ℕ → ℕ → ℕ
steps_back m s k = (s + m - k) % m

-- the game of two teams in slot s, the first of them at home or away
abbrev pub game_of : Bool → ℕ → ℕ → ℕ → Game
game_of true i j s = record { home = record { 0 = i }; away = record { 0 = j }; slot = record { 0 = s } }
game_of false i j s = record { home = record { 0 = j }; away = record { 0 = i }; slot = record { 0 = s } }

-- the last team's game in slot s: at home in the even slots
abbrev pub last_team_game : ℕ → ℕ → Game
last_team_game n s = game_of (s % 2 == 0) (n - 1) s s

-- the game in slot s of the teams k steps on and k steps back: the former is at home where k is odd
abbrev pub circle_game : ℕ → ℕ → ℕ → Game
circle_game n s k = game_of (k % 2 == 1) (steps_on (n - 1) s k) (steps_back (n - 1) s k) s

-- the games in slot s
abbrev pub slot_games : ℕ → ℕ → List Game
slot_games n s = last_team_game n s ∷ map (circle_game n s) (range_with_len 1 (n / 2 - 1))

-- the single round robin, in n - 1 slots
abbrev pub single_games : ℕ → List Game
single_games n = flat_map (slot_games n) (range_with_len 0 (n - 1))

-- the return game: the meeting of a game at the other team's venue, n - 1 slots later
abbrev pub return_game : ℕ → Game → Game
return_game n g = record { home = g.away; away = g.home; slot = record { 0 = g.slot.0 + (n - 1) } }

-- the double round robin: the single one, and then its return games
abbrev pub double_games : ℕ → List Game
double_games n = single_games n ++ map (return_game n) (single_games n)
