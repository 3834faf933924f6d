-- The elements of instance and solution files (RobinX) that are read, and where they stand.
use Rattle.std.specs.Prelude.{ℕ, Bool, true, false, List, [], ◌∷◌, map, Option, Some, None, codes}
use Rattle.robinx.specs.declared.tag_fault.FormKind.{FormKind}
use Rattle.robinx.specs.declared.tag_fault.FormKind.TheVariants.{BadNesting, RepeatedElement, UnsupportedClass}
use Rattle.league.specs.Names.{name_text}
use Rattle.league.specs.declared.class.ClassName.TheVariants.{Ca1, Ca2, Ca3, Ca4, Ga1, Br1, Br2, Fa2, Se1}
use Rattle.robinx.specs.declared.element.GroupName.{GroupName}
use Rattle.robinx.specs.declared.element.GroupName.TheVariants.{Basic, Capacity, Game, Break}
use Rattle.robinx.specs.declared.element.GroupName.TheVariants.{Fairness, Separation}
use Rattle.robinx.specs.declared.element.Times.TheVariants.{Once, AtMostOnce, Any}
use Rattle.robinx.specs.declared.element.Row.{Row}
use Rattle.robinx.specs.declared.element.Element.{Element}
use Rattle.robinx.specs.declared.element.Element.TheVariants.{InstanceFile, SolutionFile, Instance, Structure}
use Rattle.robinx.specs.declared.element.Element.TheVariants.{Format, NumberRoundRobin, Compactness, GameMode}
use Rattle.robinx.specs.declared.element.Element.TheVariants.{Resources, Teams, Team, Slots, Slot, Constraints}
use Rattle.robinx.specs.declared.element.Element.TheVariants.{Group, Class, Solution, Games, ScheduledMatch}

-- the name of a group
abbrev pub group_name : GroupName → List ℕ
group_name Basic = codes "BasicConstraints"
group_name Capacity = codes "CapacityConstraints"
group_name Game = codes "GameConstraints"
group_name Break = codes "BreakConstraints"
group_name Fairness = codes "FairnessConstraints"
group_name Separation = codes "SeparationConstraints"

-- the name in an element's tags; a file has none
abbrev pub element_name : Element → List ℕ
element_name InstanceFile = []
element_name SolutionFile = []
element_name Instance = codes "Instance"
element_name Structure = codes "Structure"
element_name Format = codes "Format"
element_name NumberRoundRobin = codes "numberRoundRobin"
element_name Compactness = codes "compactness"
element_name GameMode = codes "gameMode"
element_name Resources = codes "Resources"
element_name Teams = codes "Teams"
element_name Team = codes "team"
element_name Slots = codes "Slots"
element_name Slot = codes "slot"
element_name Constraints = codes "Constraints"
element_name (Group name) = group_name name
element_name (Class name) = codes (name_text name)
element_name Solution = codes "Solution"
element_name Games = codes "Games"
element_name ScheduledMatch = codes "ScheduledMatch"

-- a row: an element that has to come once, that may come once, that may come any number of times
abbrev pub once : Element → Row
once element = record { element = element; times = Once }

abbrev pub at_most_once : Element → Row
at_most_once element = record { element = element; times = AtMostOnce }

abbrev pub any : Element → Row
any element = record { element = element; times = Any }

-- the elements that are read inside of an element
abbrev pub inside : Element → List Row
inside InstanceFile = once Instance ∷ []
inside SolutionFile = once Solution ∷ []
inside Instance = once Structure ∷ once Resources ∷ once Constraints ∷ []
inside Structure = once Format ∷ []
inside Format = once NumberRoundRobin ∷ once Compactness ∷ at_most_once GameMode ∷ []
inside NumberRoundRobin = []
inside Compactness = []
inside GameMode = []
inside Resources = once Teams ∷ once Slots ∷ []
inside Teams = any Team ∷ []
inside Team = []
inside Slots = any Slot ∷ []
inside Slot = []
inside Constraints =
    map (λ name. any (Group name)) (Basic ∷ Capacity ∷ Game ∷ Break ∷ Fairness ∷ Separation ∷ [])
inside (Group _) =
    map (λ name. any (Class name)) (Ca1 ∷ Ca2 ∷ Ca3 ∷ Ca4 ∷ Ga1 ∷ Br1 ∷ Br2 ∷ Fa2 ∷ Se1 ∷ [])
inside (Class _) = []
inside Solution = once Games ∷ []
inside Games = any ScheduledMatch ∷ []
inside ScheduledMatch = []

-- what a Start is that isn't among the elements that are read there, or None where it is passed over: none is passed
-- over in a file, in an element without parts, and among the constraints
abbrev pub unlisted : Element → Option FormKind
unlisted InstanceFile = Some BadNesting
unlisted SolutionFile = Some BadNesting
unlisted NumberRoundRobin = Some BadNesting
unlisted Compactness = Some BadNesting
unlisted GameMode = Some BadNesting
unlisted Team = Some BadNesting
unlisted Slot = Some BadNesting
unlisted Constraints = Some UnsupportedClass
unlisted (Group _) = Some UnsupportedClass
unlisted (Class _) = Some BadNesting
unlisted ScheduledMatch = Some BadNesting
unlisted _ = None

-- what an element is that may stand once and comes again: after the root of a file no tag stands
abbrev pub repeated : Element → FormKind
repeated InstanceFile = BadNesting
repeated SolutionFile = BadNesting
repeated _ = RepeatedElement

-- whether the text of an element is its value
abbrev pub has_value : Element → Bool
has_value NumberRoundRobin = true
has_value Compactness = true
has_value GameMode = true
has_value _ = false
