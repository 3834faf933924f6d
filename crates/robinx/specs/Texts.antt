-- The text of an instance file and of a solution file (RobinX and ITC 2021; which of the allowed texts is written is
-- our choice).
use Prim.Native.String.{String}
use Rattle.std.specs.Prelude.{ℕ, Bool, true, false, if◌then◌else◌, List, [], ◌∷◌, ◌++◌, Option, Some, None, codes}
use Rattle.std.specs.Prelude.{bytes_eq}
use Rattle.std.specs.List.{flat_map}
use Rattle.league.specs.Counts.{teams_of, slots_of}
use Rattle.league.specs.Instance.{Instance}
use Rattle.league.specs.Names.{name_of, name_text}
use Rattle.league.specs.declared.game.Game as game
use Rattle.league.specs.declared.class.Class.{Class}
use Rattle.league.specs.declared.class.Class.TheVariants.{Ca1, Ca2, Ca3, Ca4, Ga1, Br1, Br2, Fa2, Se1}
use Rattle.league.specs.declared.class.ClassName.{ClassName}
use Rattle.league.specs.declared.class.ClassName.TheVariants as name
use Rattle.league.specs.declared.class.Constraint.{Constraint}
use Rattle.league.specs.declared.class.Side.{Side}
use Rattle.league.specs.declared.class.Side.TheVariants.{H, A, Both}
use Rattle.league.specs.declared.class.Span.{Span}
use Rattle.league.specs.declared.class.Span.TheVariants.{Global, Every}
use Rattle.robinx.specs.Tags.{Attribute}
use Rattle.robinx.specs.Attributes.{word, count, ids, pairs, attribute_text, tag_line}
use Rattle.robinx.specs.Elements.{group_name}
use Rattle.robinx.specs.declared.element.GroupName.{GroupName}
use Rattle.robinx.specs.declared.element.GroupName.TheVariants.{Capacity, Game, Break, Fairness, Separation}

-- a side
abbrev pub side_word : Side → String
side_word H = "H"
side_word A = "A"
side_word Both = "HA"

-- whether CA4 bounds all slots together or each
abbrev pub span_word : Span → String
span_word Global = "GLOBAL"
span_word Every = "EVERY"

-- whether a constraint is hard
abbrev pub type_word : Bool → String
type_word true = "HARD"
type_word false = "SOFT"

-- the group that holds constraints of a class
abbrev pub group_of : ClassName → GroupName
group_of name.Ca1 = Capacity
group_of name.Ca2 = Capacity
group_of name.Ca3 = Capacity
group_of name.Ca4 = Capacity
group_of name.Ga1 = Game
group_of name.Br1 = Break
group_of name.Br2 = Break
group_of name.Fa2 = Fairness
group_of name.Se1 = Separation

-- a class's attributes; those that a file may leave out are written
abbrev pub class_attributes : Class → List Attribute
class_attributes (Ca1 teams min max side slots) =
    ids "teams" teams ∷ count "min" min ∷ count "max" max ∷ word "mode" (side_word side) ∷ ids "slots" slots ∷ []
class_attributes (Ca2 teams1 teams2 min max side slots) =
    ids "teams1" teams1 ∷ ids "teams2" teams2 ∷ count "min" min ∷ count "max" max ∷ word "mode1" (side_word side)
    ∷ word "mode2" "GLOBAL" ∷ ids "slots" slots ∷ []
class_attributes (Ca3 teams1 teams2 min max intp side) =
    ids "teams1" teams1 ∷ ids "teams2" teams2 ∷ count "min" min ∷ count "max" max ∷ word "mode1" (side_word side)
    ∷ word "mode2" "SLOTS" ∷ count "intp" intp ∷ []
class_attributes (Ca4 teams1 teams2 min max side span slots) =
    ids "teams1" teams1 ∷ ids "teams2" teams2 ∷ count "min" min ∷ count "max" max ∷ word "mode1" (side_word side)
    ∷ word "mode2" (span_word span) ∷ ids "slots" slots ∷ []
class_attributes (Ga1 meetings min max slots) =
    pairs "meetings" meetings ∷ count "min" min ∷ count "max" max ∷ ids "slots" slots ∷ []
class_attributes (Br1 teams intp side slots) =
    ids "teams" teams ∷ count "intp" intp ∷ word "mode1" "LEQ" ∷ word "mode2" (side_word side) ∷ ids "slots" slots ∷ []
class_attributes (Br2 teams intp slots) =
    ids "teams" teams ∷ count "intp" intp ∷ word "homeMode" "HA" ∷ word "mode2" "LEQ" ∷ ids "slots" slots ∷ []
class_attributes (Fa2 teams intp slots) =
    ids "teams" teams ∷ count "intp" intp ∷ word "mode" "H" ∷ ids "slots" slots ∷ []
class_attributes (Se1 teams min) = ids "teams" teams ∷ count "min" min ∷ word "mode1" "SLOTS" ∷ []

-- the text of a class's attributes
abbrev pub class_text : Class → List ℕ
class_text class = flat_map attribute_text (class_attributes class)

-- a constraint's attributes: its class's, then whether it is hard, then its penalty
abbrev pub constraint_attributes : Constraint → List Attribute
constraint_attributes c =
    class_attributes c.class ++ (word "type" (type_word c.hard) ∷ count "penalty" c.penalty ∷ [])

-- the line of a constraint
abbrev pub constraint_line : Constraint → List ℕ
constraint_line c = tag_line (codes (name_text (name_of c.class))) (constraint_attributes c)

-- the line that begins a group, if there is one
abbrev pub opens : Option (List ℕ) → List ℕ
opens None = []
opens (Some group) = codes "<" ++ (group ++ codes ">\n")

-- the line that ends a group, if there is one
abbrev pub closes : Option (List ℕ) → List ℕ
closes None = []
closes (Some group) = codes "</" ++ (group ++ codes ">\n")

-- whether two groups, or their absence, are the same
abbrev pub is_same_group : Option (List ℕ) → Option (List ℕ) → Bool
is_same_group None None = true
is_same_group None (Some b) = false
is_same_group (Some a) None = false
is_same_group (Some a) (Some b) = bytes_eq a b

-- what stands between constraints of one group and of another
abbrev pub between : Option (List ℕ) → Option (List ℕ) → List ℕ
between one other = if is_same_group one other then [] else closes one ++ opens other

-- constraints after one of this group: consecutive ones of one group stand in one element
abbrev pub constraints_after : Option (List ℕ) → List Constraint → List ℕ
constraints_after group [] = between group None
constraints_after group (c ∷ constraints) =
    let own = Some (group_name (group_of (name_of c.class))) in
    between group own ++ (constraint_line c ++ constraints_after own constraints)

-- the game mode, phased or not
abbrev pub mode_word : Bool → String
mode_word true = "P"
mode_word false = "NULL"

-- an element of this name and id: a team, a slot
abbrev pub id_line : List ℕ → ℕ → List ℕ
id_line name id = tag_line name (count "id" id ∷ [])

abbrev pub team_line : ℕ → List ℕ
team_line i = id_line (codes "team") i

abbrev pub slot_line : ℕ → List ℕ
slot_line s = id_line (codes "slot") s

-- what stands before the teams
abbrev pub head_text : Bool → List ℕ
head_text phased =
    codes "<?xml version=\"1.0\" encoding=\"UTF-8\"?>\n<Instance>\n<Structure>\n<Format leagueIds=\"0\">\n"
    ++ (codes "<numberRoundRobin>2</numberRoundRobin>\n<compactness>C</compactness>\n<gameMode>"
    ++ (codes (mode_word phased) ++ codes "</gameMode>\n</Format>\n</Structure>\n<Resources>\n<Teams>\n"))

-- the teams and the slots, up to the constraints
abbrev pub season_text : ℕ → List ℕ
season_text n =
    flat_map team_line (teams_of n)
    ++ (codes "</Teams>\n<Slots>\n"
    ++ (flat_map slot_line (slots_of n) ++ codes "</Slots>\n</Resources>\n<Constraints>\n"))

-- the whole text of an instance
abbrev pub instance_text : Instance → List ℕ
instance_text league =
    head_text league.phased
    ++ (season_text league.n
    ++ (constraints_after None league.constraints ++ codes "</Constraints>\n</Instance>\n"))

-- a game
abbrev pub game_line : game.Game → List ℕ
game_line g =
    tag_line (codes "ScheduledMatch") (count "home" g.home.0 ∷ count "away" g.away.0 ∷ count "slot" g.slot.0 ∷ [])

-- the infeasibility and the objective, where they are given
abbrev pub score_text : Option (ℕ × ℕ) → List ℕ
score_text None = []
score_text (Some score) =
    let values = count "infeasibility" score.0 ∷ count "objective" score.1 ∷ [] in
    codes "<MetaData>\n" ++ (tag_line (codes "ObjectiveValue") values ++ codes "</MetaData>\n")

-- the whole text of a solution
abbrev pub solution_text : List game.Game → Option (ℕ × ℕ) → List ℕ
solution_text games score =
    codes "<?xml version=\"1.0\" encoding=\"UTF-8\"?>\n<Solution>\n"
    ++ (score_text score
    ++ (codes "<Games>\n"
    ++ (flat_map game_line games
    ++ codes "</Games>\n</Solution>\n")))
