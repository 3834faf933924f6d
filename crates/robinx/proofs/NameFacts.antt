-- Worked labels, so that a wrong definition does not check.
use Rattle.std.proofs.Common.{◌≡◌, [], ◌∷◌, refl}
use Rattle.std.specs.Prelude.{codes}
use Rattle.std.specs.Fmt.{digits}
use Rattle.robinx.specs.Names.{Names, team_name, slot_name, label}

-- four teams, of which team 2 has no name, and two slots
abbrev pub some_names : Names
some_names = record {
  teams = codes "Ajax" ∷ codes "Brug" ∷ [] ∷ codes "Dam" ∷ [];
  slots = codes "Sat 1 May" ∷ [] ∷ [];
}

pub team_name-some : (team_name some_names 1 ≡ codes "Brug") × (team_name some_names 2 ≡ []) × (team_name some_names 4 ≡ [])
team_name-some = (refl, refl, refl)

pub slot_name-some : (slot_name some_names 0 ≡ codes "Sat 1 May") × (slot_name some_names 1 ≡ [])
slot_name-some = (refl, refl)

pub label-some : (label some_names 0 ≡ codes "Ajax") × (label some_names 2 ≡ codes "team 2") × (label some_names 3 ≡ codes "Dam")
unfolding digits
label-some = (refl, refl, refl)

-- two teams of one name: all have their numbers
abbrev pub alike : Names
alike = record { teams = codes "Ajax" ∷ codes "Dam" ∷ [] ∷ codes "Ajax" ∷ []; slots = [] }

pub label-alike : (label alike 0 ≡ codes "#0 Ajax") × (label alike 1 ≡ codes "#1 Dam") × (label alike 2 ≡ codes "#2 team 2") × (label alike 3 ≡ codes "#3 Ajax")
unfolding digits
label-alike = (refl, refl, refl, refl)

-- a name that is what another team is called without one
abbrev pub posing : Names
posing = record { teams = codes "team 1" ∷ [] ∷ []; slots = [] }

pub label-posing : (label posing 0 ≡ codes "#0 team 1") × (label posing 1 ≡ codes "#1 team 1")
unfolding digits
label-posing = (refl, refl)
