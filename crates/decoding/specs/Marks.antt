-- Which variables a game makes true in the shadow of a schedule.
use Rattle.std.specs.Prelude.{ℕ, ◌-◌, Bool, ◌&&◌, ◌==◌, nat_lt}
use Rattle.league.specs.declared.game.Game.{Game}
use Rattle.encoding.specs.Variables.{ab_var, h_var, hb_var, x_var}

-- whether a variable is that of the game
abbrev pub marks_game : ℕ → ℕ → Game → Bool
marks_game n var g = x_var n g.home.0 g.away.0 g.slot.0 == var

-- whether it says that the game's home team is at home in its slot, or that its away team is
abbrev pub marks_home : ℕ → ℕ → Game → Bool
marks_home n var g = h_var n g.home.0 g.slot.0 == var

abbrev pub marks_away : ℕ → ℕ → Game → Bool
marks_away n var g = h_var n g.away.0 g.slot.0 == var

-- whether it says that the game's home team has a home break at its slot, where a table says whether a team is at home
abbrev pub marks_home_break : ℕ → (ℕ → Bool) → ℕ → Game → Bool
marks_home_break n home var g =
    nat_lt 0 g.slot.0 && (hb_var n g.home.0 g.slot.0 == var) && home (h_var n g.home.0 (g.slot.0 - 1))

-- whether it says that the game's away team has an away break there, by a table of the away games
abbrev pub marks_away_break : ℕ → (ℕ → Bool) → ℕ → Game → Bool
marks_away_break n away var g =
    nat_lt 0 g.slot.0 && (ab_var n g.away.0 g.slot.0 == var) && away (h_var n g.away.0 (g.slot.0 - 1))
