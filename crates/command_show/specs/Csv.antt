-- A season for a spreadsheet: comma-separated values (RFC 4180), a line a game.
use Rattle.std.specs.Prelude.{ℕ, Bool, ◌==◌, if◌then◌else◌, List, [], ◌∷◌, ◌++◌, codes, decimal}
use Rattle.std.specs.List.{flat_map, list_any}
use Rattle.std.specs.Str.{byte}
use Rattle.league.specs.declared.game.Game.{Game}
use Rattle.robinx.specs.Bytes.{is_one_of}
use Rattle.robinx.specs.Names.{Names, team_name, slot_name}

-- a name that a spreadsheet would take for a formula, with an apostrophe before it
abbrev pub defused : List ℕ → List ℕ
defused [] = []
defused (b ∷ name) = if is_one_of (codes "=+-@") b then byte "'" ∷ b ∷ name else b ∷ name

-- whether a field is put into quotes
abbrev pub needs_quotes : List ℕ → Bool
needs_quotes field = list_any (is_one_of (codes ",\"\r\n")) field

-- a byte in quotes: a quote is doubled
abbrev pub doubled : ℕ → List ℕ
doubled b = if b == byte "\"" then b ∷ b ∷ [] else b ∷ []

-- a field
abbrev pub field_text : List ℕ → List ℕ
field_text field = if needs_quotes field then codes "\"" ++ (flat_map doubled field ++ codes "\"") else field

-- two fields: a number, and the name of what it numbers
abbrev pub numbered : ℕ → List ℕ → List ℕ
numbered k name = decimal k ++ (codes "," ++ field_text (defused name))

-- the line of a game
abbrev pub game_line : Names → Game → List ℕ
game_line names g =
    numbered g.slot.0 (slot_name names g.slot.0)
    ++ (codes "," ++ (numbered g.home.0 (team_name names g.home.0)
    ++ (codes "," ++ (numbered g.away.0 (team_name names g.away.0) ++ codes "\r\n"))))

-- the line of the fields' names, and a line for each of these games
abbrev pub csv_text : Names → List Game → List ℕ
csv_text names games =
    codes "slot,slot_name,home,home_name,away,away_name\r\n" ++ flat_map (game_line names) games
