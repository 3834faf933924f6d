-- A round robin as a table, and the games that a move changes.
use Rattle.std.specs.Prelude.{◌≡◌, ℕ, ◌+◌, ◌-◌, ◌*◌, ◌≤◌, Bool, ◌&&◌, nat_lt, if◌then◌else◌}
use Rattle.std.specs.Prelude.{List, slice_index_or, ◌⊎◌}
use Rattle.league.specs.Counts.{Counts, counts_of, is_game, slot_count}
use Rattle.league.specs.declared.game.Game.{Game}
use Rattle.moves.specs.Moves.{game}

-- the game of a team in a slot, of a table with 78 places for each team, as many as the longest season has slots
abbrev pub entry : List Game → ℕ → ℕ → Game
entry games i s = slice_index_or games (i * 78 + s) (game 0 0 0)

-- the number of teams, whether there are two phases, and the table of the teams' games
pub record Round : Type 0 where
  pub n : ℕ
  pub phased : Bool
  pub games : List Game

-- the game of a team in a slot
abbrev pub game_at : Round → ℕ → ℕ → Game
game_at r i s = entry r.games i s

-- how often each game is played
abbrev pub round_counts : Round → Counts
round_counts r i j s = if nat_lt i r.n && nat_lt s (slot_count r.n) && is_game i j s (game_at r i s) then 1 else 0

-- the number of teams, and the games that a move takes out and puts in
pub record Edits : Type 0 where
  pub n : ℕ
  pub out : List Game
  pub into : List Game

-- the games taken out are there, and with the others in their places the counts before become those after
pub record IsEdit (before after : Counts) (edit : Edits) : Type 0 where
  pub there : (i j s : ℕ) → counts_of edit.out i j s ≤ before i j s
  pub moves : (i j s : ℕ) → after i j s + counts_of edit.out i j s ≡ before i j s + counts_of edit.into i j s

-- no game is both taken out and put in
abbrev pub AreApart : Edits → Type 0
AreApart edit = (i j s : ℕ) → (counts_of edit.out i j s ≡ 0) ⊎ (counts_of edit.into i j s ≡ 0)

-- the counts after an edit
abbrev pub edited : Counts → Edits → Counts
edited m edit i j s = m i j s + counts_of edit.into i j s - counts_of edit.out i j s
