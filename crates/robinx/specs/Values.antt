-- How the values of attributes and elements are read: a value, or the kind of the first fault.
use Rattle.std.specs.Prelude.{ℕ, Bool, not, ◌&&◌, ◌==◌, ◌^◌, nat_lt, if◌then◌else◌, List, [], ◌∷◌, Some, None, Result}
use Rattle.std.specs.Prelude.{Ok, Err, codes, bytes_eq}
use Rattle.std.specs.List.{find, list_any, count_by, before_first, after_first, filter}
use Prim.Native.String.{String}
use Rattle.std.specs.Str.{byte}
use Rattle.std.specs.Str.Parse.{digits_value}
use Rattle.robin_io.specs.Numbers.{is_number}
use Rattle.robinx.specs.Fronts.{◌>>=◌, check}
use Rattle.robinx.specs.Tags.{Attribute, value_of}
use Rattle.robinx.specs.declared.tag_fault.FormKind.{FormKind}
use Rattle.robinx.specs.declared.tag_fault.FormKind.TheVariants as kind
use Rattle.league.specs.Counts.{teams_of, slots_of, slot_count}
use Rattle.league.specs.Meetings.{meetings_of}
use Rattle.league.specs.Sets.{is_in}

-- What is read: a value, or the kind of the first fault.
abbrev pub Reading : Type 0 → Type 0
Reading A = Result A FormKind

-- the value of an attribute that has to be there
abbrev pub value_in : List ℕ → List Attribute → Reading (List ℕ)
value_in name attributes = elim (value_of name attributes) [ Some value ↦ Ok value | None ↦ Err kind.MissingAttribute ]

-- an attribute that has to be there
abbrev pub required : {A : Type 0} → List ℕ → (List ℕ → Reading A) → List Attribute → Reading A
required name read attributes = value_in name attributes >>= read

-- an attribute that may be absent, and then is this
abbrev pub optional : {A : Type 0} → List ℕ → A → (List ℕ → Reading A) → List Attribute → Reading A
optional name absent read attributes = elim (value_of name attributes) [ Some value ↦ read value | None ↦ Ok absent ]

-- one or more digits, of a value up to 4,294,967,295
abbrev pub number : List ℕ → Reading ℕ
number text = do
  digits ← check (is_number text) kind.BadNumber
  small ← check (nat_lt (digits_value 10 text) (2 ^ 32)) kind.NumberTooLarge
  Ok (digits_value 10 text)

-- a number below a limit, and otherwise this fault
abbrev pub id : FormKind → ℕ → List ℕ → Reading ℕ
id unknown limit text = do
  n ← number text
  known ← check (nat_lt n limit) unknown
  Ok n

-- a team of a league of n teams, and a slot of its season
abbrev pub team : ℕ → List ℕ → Reading ℕ
team n text = id kind.UnknownTeam n text

abbrev pub slot : ℕ → List ℕ → Reading ℕ
slot n text = id kind.UnknownSlot (slot_count n) text

-- the byte b before the items of the rest
abbrev pub onto_item : ℕ → List (List ℕ) → List (List ℕ)
onto_item b [] = (b ∷ []) ∷ []
onto_item b (item ∷ items) = (b ∷ item) ∷ items

-- items that each end with `;`, which the last one may lack
abbrev pub items_of : List ℕ → List (List ℕ)
items_of [] = []
items_of (b ∷ text) = if b == byte ";" then [] ∷ items_of text else onto_item b (items_of text)

-- each item in order
abbrev pub each : {A : Type 0} → (List ℕ → Reading A) → List (List ℕ) → Reading (List A)
each read [] = Ok []
each read (item ∷ items) = do
  first ← read item
  others ← each read items
  Ok (first ∷ others)

-- a list of teams: those of the league that stand in it
abbrev pub teams : ℕ → List ℕ → Reading (List ℕ)
teams n text = do
  ids ← each (team n) (items_of text)
  Ok (filter (λ i. is_in i ids) (teams_of n))

-- a list of slots: those of the season that stand in it
abbrev pub slots : ℕ → List ℕ → Reading (List ℕ)
slots n text = do
  ids ← each (slot n) (items_of text)
  Ok (filter (λ i. is_in i ids) (slots_of n))

-- two different teams
abbrev pub distinct : ℕ → ℕ → Reading (ℕ × ℕ)
distinct home away = check (not (home == away)) kind.SameTeam >>= λ differ. Ok (home, away)

abbrev is_comma : ℕ → Bool
is_comma b = b == byte ","

-- a meeting: a home team and an away team, with one comma between
abbrev pub meeting : ℕ → List ℕ → Reading (ℕ × ℕ)
meeting n item = do
  one ← check (count_by is_comma item == 1) kind.BadNumber
  home ← team n (before_first is_comma item)
  away ← team n (after_first is_comma item)
  distinct home away

-- a list of meetings: those of the league that stand in it
abbrev pub meetings : ℕ → List ℕ → Reading (List (ℕ × ℕ))
meetings n text = do
  pairs ← each (meeting n) (items_of text)
  Ok (filter (λ pair. list_any (λ p. p.0 == pair.0 && p.1 == pair.1) pairs) (meetings_of n))

-- one of these texts, for what it stands for
abbrev pub choice : {A : Type 0} → List (String × A) → List ℕ → Reading A
choice texts text = elim (find (λ t. bytes_eq text (codes t.0)) texts) [
  | Some found ↦ Ok found.1
  | None ↦ Err kind.BadChoice
]

-- this text
abbrev pub only : List ℕ → List ℕ → Reading (Unit {0})
only one text = check (bytes_eq text one) kind.BadChoice

-- a number that isn't 0
abbrev pub above_zero : List ℕ → Reading ℕ
above_zero text = do
  n ← number text
  above ← check (nat_lt 0 n) kind.BadChoice
  Ok n
