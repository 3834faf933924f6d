-- The names that an instance file gives: a second meaning of its elements, beside that of `instance_of`.
use Rattle.std.specs.Prelude.{ℕ, List, [], Result, Ok, unwrap_or, replicate, slice_set, codes}
use Rattle.robinx.specs.Fronts.{◌>>=◌}
use Rattle.robinx.specs.Tags.{Attribute, value_of}
use Rattle.robinx.specs.Pieces.{Pieces}
use Rattle.robinx.specs.Walk.{Meaning, Fault, reading}
use Rattle.robinx.specs.Values.{Reading, required, number}
use Rattle.robinx.specs.declared.element.Element.{Element}
use Rattle.robinx.specs.declared.element.Element.TheVariants.{InstanceFile, Team, Slot}
use Rattle.league.specs.Counts.{slot_count}
use Rattle.robinx.specs.Plain.{plain}
use Rattle.robinx.specs.Names.{Names, or_else}

-- the name in an attribute, which is empty where the attribute is absent
abbrev pub named_by : List ℕ → List Attribute → List ℕ
named_by attribute tag = plain (unwrap_or (value_of attribute tag) [])

-- the name that a tag gives: the public one, or else the other
abbrev pub name_in : List Attribute → List ℕ
name_in tag = or_else (named_by (codes "publicName") tag) (named_by (codes "name") tag)

-- the name of a team, and of a slot, by its id; an id that the league hasn't is passed over
abbrev pub with_team : List Attribute → Names → Reading Names
with_team tag names = do
  id ← required (codes "id") number tag
  Ok (record names { teams = slice_set names.teams id (name_in tag) })

abbrev pub with_slot : List Attribute → Names → Reading Names
with_slot tag names = do
  id ← required (codes "id") number tag
  Ok (record names { slots = slice_set names.slots id (name_in tag) })

-- at the Start of an element
abbrev pub starts : Element → List Attribute → Names → Reading Names
starts Team tag names = with_team tag names
starts Slot tag names = with_slot tag names
starts _ tag names = Ok names

-- at the End of an element
abbrev pub ends : Element → List ℕ → Names → Reading Names
ends element value names = Ok names

-- what the elements of an instance file say of names
abbrev pub names_meaning : Meaning Names
names_meaning = record { started = starts; ended = ends }

-- no names for the teams and the slots of a league of n teams
abbrev pub nameless : ℕ → Names
nameless n = record { teams = replicate n []; slots = replicate (slot_count n) [] }

-- the names that these pieces give a league of n teams, or the first fault
abbrev pub names_of : ℕ → Pieces → Result Names Fault
names_of n found = reading names_meaning InstanceFile (nameless n) found
