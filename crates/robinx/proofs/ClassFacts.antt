-- The attributes of the nine classes, worked out by hand, so that a wrong row of a class does not check. A row has the
-- name of an attribute, a right value and a wrong one, which may be its absence, in the order in which they are read.
-- Neighbours have faults of different kinds, so that another order is another list of faults; but `homeMode` and
-- `mode2` of BR2, whose one fault is the same.
use Prim.Native.String.{String}
use Rattle.std.proofs.Common.{◌≡◌, ◌+◌, true, false, List, [], ◌∷◌, ◌++◌, map, take, drop, length, Option, Some, None, Ok, Err, refl}
use Rattle.std.specs.Prelude.{codes}
use Rattle.std.specs.List.{flat_map, range_with_len}
use Rattle.robinx.specs.Tags.{Attribute}
use Rattle.robinx.specs.declared.tag_fault.FormKind.{FormKind}
use Rattle.robinx.specs.declared.tag_fault.FormKind.TheVariants.{MissingAttribute, BadNumber, NumberTooLarge, UnknownTeam, UnknownSlot, SameTeam, BadChoice}
use Rattle.robinx.specs.Values.{Reading, above_zero}
use Rattle.robinx.specs.Classes.{constraint_of}
use Rattle.robinx.specs.Words.{home_or_away, side, span, hardness, game_mode}
use Rattle.league.specs.declared.class.ClassName.{ClassName}
use Rattle.league.specs.declared.class.ClassName.TheVariants.{Ca1, Ca2, Ca3, Ca4, Ga1, Br1, Br2, Fa2, Se1}
use Rattle.league.specs.declared.class.Class.{Class}
use Rattle.league.specs.declared.class.Class.TheVariants as class
use Rattle.league.specs.declared.class.Constraint.{Constraint}
use Rattle.league.specs.declared.class.Side.TheVariants.{H, A, Both}
use Rattle.league.specs.declared.class.Span.TheVariants.{Global, Every}

abbrev Row : Type 0
Row = String × String × Option String

abbrev right : Row → List Attribute
right row = record { name = codes row.0; value = codes row.1 } ∷ []

abbrev wrong : Row → List Attribute
wrong row = elim row.2 [ Some value ↦ record { name = codes row.0; value = codes value } ∷ [] | None ↦ [] ]

-- what a soft constraint of penalty 7 is read as; its type and its penalty stand behind its class's attributes
abbrev tag_of : List Attribute → List Attribute
tag_of attributes = attributes ++ (record { name = codes "penalty"; value = codes "7" } ∷ record { name = codes "type"; value = codes "SOFT" } ∷ [])

abbrev soft : Class → Constraint
soft class = record { hard = false; penalty = 7; class = class }

abbrev fault_of : Reading Constraint → Option FormKind
fault_of (Ok constraint) = None
fault_of (Err kind) = Some kind

abbrev missing : Option FormKind
missing = Some MissingAttribute

-- with all values right
abbrev reads : ClassName → List Row → Reading Constraint
reads name rows = constraint_of name 4 (tag_of (flat_map right rows))

-- the fault where so many values are right and those after them wrong, for each such number
abbrev faults : ClassName → List Row → List (Option FormKind)
faults name rows = map (λ k. fault_of (constraint_of name 4 (tag_of (flat_map wrong (drop k rows) ++ flat_map right (take k rows))))) (range_with_len 0 (length rows))

-- the fault where one attribute is absent, for each of them
abbrev absences : ClassName → List Row → List (Option FormKind)
absences name rows = map (λ k. fault_of (constraint_of name 4 (tag_of (flat_map right (take k rows ++ drop (k + 1) rows))))) (range_with_len 0 (length rows))

abbrev ca1 : List Row
ca1 = ("teams", "3;0;3;", Some "4") ∷ ("min", "07", Some "") ∷ ("max", "9", Some "4294967296") ∷ ("mode", "A", Some "HA") ∷ ("slots", "5;2", Some "6") ∷ []

pub ca1-is : reads Ca1 ca1 ≡ Ok (soft (class.Ca1 (0 ∷ 3 ∷ []) 7 9 A (2 ∷ 5 ∷ [])))
ca1-is = refl

pub ca1-faults : faults Ca1 ca1 ≡ Some UnknownTeam ∷ Some BadNumber ∷ Some NumberTooLarge ∷ Some BadChoice ∷ Some UnknownSlot ∷ []
ca1-faults = refl

pub ca1-absences : absences Ca1 ca1 ≡ missing ∷ None ∷ missing ∷ missing ∷ missing ∷ []
ca1-absences = refl

abbrev ca2 : List Row
ca2 = ("teams1", "1", Some "4") ∷ ("teams2", "2;0", Some ";") ∷ ("min", "3", Some "4294967296") ∷ ("max", "9", Some "x") ∷ ("mode1", "HA", None) ∷ ("mode2", "GLOBAL", Some "EVERY") ∷ ("slots", "5;2", Some "6") ∷ []

pub ca2-is : reads Ca2 ca2 ≡ Ok (soft (class.Ca2 (1 ∷ []) (0 ∷ 2 ∷ []) 3 9 Both (2 ∷ 5 ∷ [])))
ca2-is = refl

pub ca2-faults : faults Ca2 ca2 ≡ Some UnknownTeam ∷ Some BadNumber ∷ Some NumberTooLarge ∷ Some BadNumber ∷ Some MissingAttribute ∷ Some BadChoice ∷ Some UnknownSlot ∷ []
ca2-faults = refl

pub ca2-absences : absences Ca2 ca2 ≡ missing ∷ missing ∷ None ∷ missing ∷ missing ∷ None ∷ missing ∷ []
ca2-absences = refl

abbrev ca3 : List Row
ca3 = ("teams1", "1", Some "4") ∷ ("teams2", "2;0", Some ";") ∷ ("min", "12", Some "x") ∷ ("max", "9", Some "4294967296") ∷ ("mode1", "H", None) ∷ ("mode2", "SLOTS", Some "GLOBAL") ∷ ("intp", "3", Some "") ∷ []

pub ca3-is : reads Ca3 ca3 ≡ Ok (soft (class.Ca3 (1 ∷ []) (0 ∷ 2 ∷ []) 12 9 3 H))
ca3-is = refl

pub ca3-faults : faults Ca3 ca3 ≡ Some UnknownTeam ∷ Some BadNumber ∷ Some BadNumber ∷ Some NumberTooLarge ∷ Some MissingAttribute ∷ Some BadChoice ∷ Some BadNumber ∷ []
ca3-faults = refl

pub ca3-absences : absences Ca3 ca3 ≡ missing ∷ missing ∷ None ∷ missing ∷ missing ∷ None ∷ missing ∷ []
ca3-absences = refl

abbrev ca4 : List Row
ca4 = ("teams1", "1", Some "4") ∷ ("teams2", "2;0", Some ";") ∷ ("min", "1", Some "") ∷ ("max", "9", Some "4294967296") ∷ ("mode1", "A", None) ∷ ("mode2", "EVERY", Some "SLOTS") ∷ ("slots", "5;2", Some "6") ∷ []

pub ca4-is : reads Ca4 ca4 ≡ Ok (soft (class.Ca4 (1 ∷ []) (0 ∷ 2 ∷ []) 1 9 A Every (2 ∷ 5 ∷ [])))
ca4-is = refl

pub ca4-faults : faults Ca4 ca4 ≡ Some UnknownTeam ∷ Some BadNumber ∷ Some BadNumber ∷ Some NumberTooLarge ∷ Some MissingAttribute ∷ Some BadChoice ∷ Some UnknownSlot ∷ []
ca4-faults = refl

pub ca4-absences : absences Ca4 ca4 ≡ missing ∷ missing ∷ None ∷ missing ∷ missing ∷ missing ∷ missing ∷ []
ca4-absences = refl

abbrev ga1 : List Row
ga1 = ("meetings", "2,1;0,3;2,1", Some "1,1") ∷ ("min", "4", Some "x") ∷ ("max", "9", Some "4294967296") ∷ ("slots", "5;2", Some "6") ∷ []

pub ga1-is : reads Ga1 ga1 ≡ Ok (soft (class.Ga1 ((0, 3) ∷ (2, 1) ∷ []) 4 9 (2 ∷ 5 ∷ [])))
ga1-is = refl

pub ga1-faults : faults Ga1 ga1 ≡ Some SameTeam ∷ Some BadNumber ∷ Some NumberTooLarge ∷ Some UnknownSlot ∷ []
ga1-faults = refl

pub ga1-absences : absences Ga1 ga1 ≡ missing ∷ missing ∷ missing ∷ missing ∷ []
ga1-absences = refl

abbrev br1 : List Row
br1 = ("teams", "1", Some "4") ∷ ("intp", "0", Some "x") ∷ ("mode1", "LEQ", Some "GEQ") ∷ ("mode2", "HA", None) ∷ ("slots", "5;2", Some "6") ∷ []

pub br1-is : reads Br1 br1 ≡ Ok (soft (class.Br1 (1 ∷ []) 0 Both (2 ∷ 5 ∷ [])))
br1-is = refl

pub br1-faults : faults Br1 br1 ≡ Some UnknownTeam ∷ Some BadNumber ∷ Some BadChoice ∷ Some MissingAttribute ∷ Some UnknownSlot ∷ []
br1-faults = refl

pub br1-absences : absences Br1 br1 ≡ missing ∷ missing ∷ None ∷ missing ∷ missing ∷ []
br1-absences = refl

abbrev br2 : List Row
br2 = ("teams", "1;2", Some "4") ∷ ("intp", "3", Some "x") ∷ ("homeMode", "HA", Some "H") ∷ ("mode2", "LEQ", Some "") ∷ ("slots", "5;2", Some "6") ∷ []

pub br2-is : reads Br2 br2 ≡ Ok (soft (class.Br2 (1 ∷ 2 ∷ []) 3 (2 ∷ 5 ∷ [])))
br2-is = refl

pub br2-faults : faults Br2 br2 ≡ Some UnknownTeam ∷ Some BadNumber ∷ Some BadChoice ∷ Some BadChoice ∷ Some UnknownSlot ∷ []
br2-faults = refl

pub br2-absences : absences Br2 br2 ≡ missing ∷ missing ∷ None ∷ None ∷ missing ∷ []
br2-absences = refl

abbrev fa2 : List Row
fa2 = ("teams", "1;2", Some "4") ∷ ("intp", "3", Some "") ∷ ("mode", "H", Some "HA") ∷ ("slots", "5;2", Some "6") ∷ []

pub fa2-is : reads Fa2 fa2 ≡ Ok (soft (class.Fa2 (1 ∷ 2 ∷ []) 3 (2 ∷ 5 ∷ [])))
fa2-is = refl

pub fa2-faults : faults Fa2 fa2 ≡ Some UnknownTeam ∷ Some BadNumber ∷ Some BadChoice ∷ Some UnknownSlot ∷ []
fa2-faults = refl

pub fa2-absences : absences Fa2 fa2 ≡ missing ∷ missing ∷ None ∷ missing ∷ []
fa2-absences = refl

abbrev se1 : List Row
se1 = ("teams", "1;2", Some "4") ∷ ("min", "3", Some "x") ∷ ("mode1", "SLOTS", Some "") ∷ []

pub se1-is : reads Se1 se1 ≡ Ok (soft (class.Se1 (1 ∷ 2 ∷ []) 3))
se1-is = refl

pub se1-faults : faults Se1 se1 ≡ Some UnknownTeam ∷ Some BadNumber ∷ Some BadChoice ∷ []
se1-faults = refl

pub se1-absences : absences Se1 se1 ≡ missing ∷ missing ∷ None ∷ []
se1-absences = refl

-- every class first has its type, then its penalty, which is 1 where it is absent, and then what is its own
abbrev typed : String → String → List Attribute
typed hard penalty = record { name = codes "type"; value = codes hard } ∷ record { name = codes "penalty"; value = codes penalty } ∷ []

pub type-first : constraint_of Se1 4 (typed "Hard" "x") ≡ Err BadChoice
type-first = refl

pub penalty-second : constraint_of Se1 4 (typed "HARD" "x") ≡ Err BadNumber
penalty-second = refl

pub class-last : constraint_of Se1 4 (typed "HARD" "0") ≡ Err MissingAttribute
class-last = refl

pub type-needed : constraint_of Se1 4 (record { name = codes "teams"; value = codes "9" } ∷ []) ≡ Err MissingAttribute
type-needed = refl

pub penalty-absent : constraint_of Se1 4 (
    record { name = codes "min"; value = codes "2" }
    ∷ record { name = codes "id"; value = codes "x" }
    ∷ record { name = codes "type"; value = codes "HARD" }
    ∷ record { name = codes "teams"; value = codes "" }
    ∷ []
    ) ≡ Ok (record { hard = true; penalty = 1; class = class.Se1 [] 2 })
penalty-absent = refl

-- each word, and words that are near
pub hardness-words : (hardness (codes "HARD") ≡ Ok true) × (hardness (codes "SOFT") ≡ Ok false) × (hardness (codes "") ≡ Err BadChoice) × (hardness (codes "HARD ") ≡ Err BadChoice)
hardness-words = (refl, refl, refl, refl)

pub home_or_away-words : (home_or_away (codes "H") ≡ Ok H) × (home_or_away (codes "A") ≡ Ok A) × (home_or_away (codes "HA") ≡ Err BadChoice) × (home_or_away (codes "") ≡ Err BadChoice)
home_or_away-words = (refl, refl, refl, refl)

pub side-words : (side (codes "H") ≡ Ok H) × (side (codes "A") ≡ Ok A) × (side (codes "HA") ≡ Ok Both) × (side (codes "AH") ≡ Err BadChoice)
side-words = (refl, refl, refl, refl)

pub span-words : (span (codes "GLOBAL") ≡ Ok Global) × (span (codes "EVERY") ≡ Ok Every) × (span (codes "SLOTS") ≡ Err BadChoice)
span-words = (refl, refl, refl)

pub game_mode-words : (game_mode (codes "P") ≡ Ok true) × (game_mode (codes "NULL") ≡ Ok false) × (game_mode [] ≡ Ok false) × (game_mode (codes "null") ≡ Err BadChoice)
game_mode-words = (refl, refl, refl, refl)

-- a lower bound on a capacity class that is absent is 0
pub ca1-no_min : reads Ca1 (take 1 ca1 ++ drop 2 ca1) ≡ Ok (soft (class.Ca1 (0 ∷ 3 ∷ []) 0 9 A (2 ∷ 5 ∷ [])))
ca1-no_min = refl

-- the length of a window: a number first, and then not 0
pub above_zero-values : (above_zero (codes "01") ≡ Ok 1) × (above_zero (codes "00") ≡ Err BadChoice) × (above_zero (codes "x") ≡ Err BadNumber) × (above_zero (codes "4294967296") ≡ Err NumberTooLarge)
above_zero-values = (refl, refl, refl, refl)
