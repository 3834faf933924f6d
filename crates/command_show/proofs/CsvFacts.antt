-- Worked lines, so that a wrong definition does not check.
use Rattle.std.proofs.Common.{◌≡◌, ℕ, [], ◌∷◌, refl}
use Rattle.std.specs.Prelude.{codes}
use Rattle.std.specs.Fmt.{digits}
use Rattle.league.specs.declared.game.Game.{Game}
use Rattle.robinx.specs.Names.{Names}
use Rattle.command_show.specs.Csv.{defused, field_text, numbered, game_line, csv_text}

abbrev game : ℕ → ℕ → ℕ → Game
game i j s = record { home = record { 0 = i }; away = record { 0 = j }; slot = record { 0 = s } }

-- the four signs that begin a formula, and only at the front
pub defused-some : (defused (codes "=1+1") ≡ codes "'=1+1") × (defused (codes "+A") ≡ codes "'+A") × (defused (codes "-A") ≡ codes "'-A") × (defused (codes "@A") ≡ codes "'@A") × (defused (codes "A=1") ≡ codes "A=1") × (defused [] ≡ [])
defused-some = (refl, refl, refl, refl, refl, refl)

-- quotes stand only where a comma or a quote is in a field, which is then doubled
pub field_text-some : (field_text (codes "Ajax 'A'") ≡ codes "Ajax 'A'") × (field_text (codes "A, B") ≡ codes "\"A, B\"") × (field_text (codes "\"old\"") ≡ codes "\"\"\"old\"\"\"") × (field_text [] ≡ [])
field_text-some = (refl, refl, refl, refl)

pub numbered-formula : numbered 12 (codes "=A,\"") ≡ codes "12,\"'=A,\"\"\""
unfolding digits
numbered-formula = refl

abbrev pub some_names : Names
some_names = record {
  teams = codes "A & B, \"old\"" ∷ [] ∷ codes "=1+1" ∷ codes "Dam" ∷ [];
  slots = codes "Sat 1 May" ∷ [] ∷ [] ∷ [] ∷ [] ∷ [] ∷ [];
}

pub game_line-some : game_line some_names (game 1 2 0) ≡ codes "0,Sat 1 May,1,,2,'=1+1\r\n"
unfolding digits
game_line-some = refl

-- two games, of which one has no name of its slot
pub csv_text-some : csv_text some_names (game 3 0 0 ∷ game 0 3 3 ∷ []) ≡ codes "slot,slot_name,home,home_name,away,away_name\r\n0,Sat 1 May,3,Dam,0,\"A & B, \"\"old\"\"\"\r\n3,,0,\"A & B, \"\"old\"\"\",3,Dam\r\n"
unfolding digits
csv_text-some = refl
