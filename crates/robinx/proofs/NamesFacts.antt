-- Worked names of files, so that a wrong definition does not check.
use Rattle.std.proofs.Common.{◌≡◌, ℕ, List, [], ◌∷◌, ◌++◌, refl}
use Rattle.std.specs.Prelude.{Ok, Err, codes}
use Rattle.std.specs.Str.{chars, is_utf8}
use Rattle.std.specs.Str.Lossy.{utf8_lossy, utf8_valid_len}
use Rattle.robinx.specs.Tags.{attributes_at}
use Rattle.robinx.specs.Pieces.{pieces, pieces_from}
use Rattle.robinx.specs.declared.tag_fault.FormKind.TheVariants.{MissingAttribute}
use Rattle.robinx.specs.Attributes.{word}
use Rattle.robinx.specs.Walk.{walk}
use Rattle.robinx.specs.Plain.{expanded_from, plain}
use Rattle.robinx.specs.NamesFile.{name_in, names_of}

-- the public name, unless there is none or it is empty
pub name_in-some :
    (name_in (word "id" "0" ∷ word "name" "H" ∷ word "publicName" "Bay" ∷ []) ≡ codes "Bay")
    × (name_in (word "name" "H" ∷ word "publicName" " " ∷ []) ≡ codes "H")
    × (name_in (word "name" "H" ∷ []) ≡ codes "H")
    × (name_in (word "id" "0" ∷ []) ≡ [])
unfolding plain expanded_from utf8_lossy utf8_valid_len is_utf8 chars lib.Utf8.encode
name_in-some = (refl, refl, refl, refl)

-- what stands in a file up to its teams, and behind its slots
abbrev front : List ℕ
front = codes "<Instance><Structure><Format><numberRoundRobin>2</numberRoundRobin><compactness>C</compactness></Format></Structure><Resources>"

abbrev behind : List ℕ
behind = codes "</Resources><Constraints/></Instance>"

-- two teams and two slots, in any order: by their ids, not by their places
abbrev two : List ℕ
two = front ++ (codes "<Teams><team id=\"1\" name=\"B\"/><team id=\"0\" name=\"A\"/></Teams><Slots><slot id=\"0\"/><slot id=\"1\" name=\"S\"/></Slots>" ++ behind)

pub names_of-two : names_of 2 (pieces two) ≡ Ok (record { teams = codes "A" ∷ codes "B" ∷ []; slots = [] ∷ codes "S" ∷ [] })
unfolding attributes_at pieces_from walk plain expanded_from utf8_lossy utf8_valid_len is_utf8 chars lib.Utf8.encode
names_of-two = refl

-- a name stands nowhere else: not in an element that is passed over, nor for an id that the league hasn't
abbrev strange : List ℕ
strange = front ++ (codes "<Teams><a><team id=\"0\" name=\"N\"/></a><team id=\"7\" name=\"B\"/></Teams><Slots/>" ++ behind)

pub names_of-strange : names_of 2 (pieces strange) ≡ Ok (record { teams = [] ∷ [] ∷ []; slots = [] ∷ [] ∷ [] })
unfolding attributes_at pieces_from walk plain expanded_from utf8_lossy utf8_valid_len is_utf8 chars lib.Utf8.encode
names_of-strange = refl

-- a team without an id is a fault, with its line
pub names_of-faulty : names_of 2 (pieces (front ++ codes "<Teams>\n<team name=\"A\"/></Teams>")) ≡ Err (MissingAttribute, 2)
unfolding attributes_at pieces_from walk
names_of-faulty = refl
