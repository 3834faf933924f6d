-- Where elements stand in a file, and what is told of what stands elsewhere: worked out by hand over the 28 lines of a
-- league of four teams and the 17 of a season, so that a wrong definition does not check.
use Prim.Native.String.{String}
use Rattle.std.proofs.Common.{◌≡◌, ℕ, ◌+◌, ◌-◌, true, false, List, [], ◌∷◌, ◌++◌, take, drop, refl}
use Rattle.std.specs.Prelude.{Result, Ok, Err, codes}
use Rattle.robinx.specs.Tags.{attributes_at}
use Rattle.robinx.specs.Pieces.{pieces, pieces_from}
use Rattle.robinx.specs.declared.tag_fault.FormKind.TheVariants.{BadAttribute, BadChoice, BadNesting, BadNumber, BadTag, MissingAttribute, MissingElement, NumberTooLarge, RepeatedAttribute, RepeatedElement, SameTeam, Truncated, UnknownSlot, UnknownTeam, UnsupportedClass, WrongCounts}
use Rattle.robinx.specs.Walk.{Fault, walk}
use Rattle.robinx.specs.InstanceFile.{instance_of}
use Rattle.robinx.specs.SolutionFile.{solution_of}
use Rattle.robinx.proofs.FileTexts.{text, replaced, league_lines, season_lines, i4, c4}
use Rattle.league.specs.Instance.{Instance}
use Rattle.league.specs.declared.game.Game.{Game}
use Rattle.league.specs.declared.class.Constraint.{Constraint}
use Rattle.league.specs.declared.class.Class.TheVariants.{Br2, Se1}

abbrev with_constraints : List Constraint → Instance
with_constraints constraints = record { n = 4; phased = true; constraints = constraints }

abbrev league : Instance
league = with_constraints []

abbrev unphased : Instance
unphased = record league { phased = false }

abbrev game : ℕ → ℕ → ℕ → Game
game i j s = record { home = record { 0 = i }; away = record { 0 = j }; slot = record { 0 = s } }

-- what the league's file says with others in place of so many of its lines from this one on
abbrev says : ℕ → ℕ → List String → Result Instance Fault
says from count others = instance_of (pieces (text (replaced league_lines from count others)))

-- what the season's file says with others in place of so many of its lines from this one on
abbrev plays : ℕ → ℕ → List String → Result (List Game) Fault
plays from count others = solution_of 4 (pieces (text (replaced season_lines from count others)))

-- the league's lines, of which so many from this one on stand behind a later one
abbrev moved : ℕ → ℕ → ℕ → List String
moved from count behind =
    let begin = from - 1 in
    take begin league_lines
    ++ (drop (begin + count) (take behind league_lines)
    ++ (take count (drop begin league_lines) ++ drop behind league_lines))

-- ---- the root

-- an Empty root is its Start and its End on one line, and nothing that has to stand in it was read
pub root_empty :
    (instance_of (pieces (codes "<Instance/>")) ≡ Err (MissingElement, 1))
    × (solution_of 4 (pieces (codes "\n<Solution/>")) ≡ Err (MissingElement, 2))
unfolding attributes_at pieces_from walk
root_empty = (refl, refl)

-- the first tag has to be the root's: line 2, behind the declaration
pub root_of_the_other_kind :
    (instance_of (pieces c4) ≡ Err (BadNesting, 2))
    × (solution_of 4 (pieces i4) ≡ Err (BadNesting, 2))
unfolding attributes_at pieces_from walk
root_of_the_other_kind = (refl, refl)

-- an element that isn't known isn't passed over before the root, and no End may stand there
pub root_first :
    (says 2 0 ("<a/>" ∷ []) ≡ Err (BadNesting, 2))
    × (says 2 0 ("</Instance>" ∷ []) ≡ Err (BadNesting, 2))
unfolding attributes_at pieces_from walk
root_first = (refl, refl)

-- the last of the 28 lines ends the root, and the last of 17 that of a season: behind it a second root, another element
-- and an End are on line 29, and on line 18
pub root_last :
    (says 29 0 ("<Instance/>" ∷ []) ≡ Err (BadNesting, 29))
    × (says 29 0 ("<a/>" ∷ []) ≡ Err (BadNesting, 29))
    × (says 29 0 ("</Instance>" ∷ []) ≡ Err (BadNesting, 29))
    × (solution_of 4 (pieces (c4 ++ codes "<Solution/>")) ≡ Err (BadNesting, 18))
unfolding attributes_at pieces_from walk
root_last = (refl, refl, refl, refl)

-- text and comments may stand around the root, but the whole file is read: a fault of a piece behind the root counts
pub root_alone :
    (instance_of (pieces (codes "a " ++ (i4 ++ codes "b <!-- <a> -->"))) ≡ Ok league)
    × (says 29 0 ("<1/>" ∷ []) ≡ Err (BadTag, 29))
unfolding attributes_at pieces_from walk
root_alone = (refl, refl)

-- pieces that end before the root's End: 2 LF stand before the file's end, which is on line 3; without any tag on line
-- 1
pub root_not_ended :
    (instance_of (pieces (codes "<Instance>\n<Structure>\n")) ≡ Err (Truncated, 3))
    × (instance_of (pieces (codes "no tag")) ≡ Err (Truncated, 1))
unfolding attributes_at pieces_from walk
root_not_ended = (refl, refl)

-- a fault of a piece counts where the pieces come to it: in a team's tag, in an End, in a comment that doesn't end; and
-- the file's end before the root's
pub piece_faults :
    (says 12 1 ("<1/>" ∷ []) ≡ Err (BadTag, 12))
    × (says 8 1 ("</Format" ∷ "x>" ∷ []) ≡ Err (BadTag, 8))
    × (says 12 1 ("<team id=0/>" ∷ []) ≡ Err (BadAttribute, 12))
    × (says 2 1 ("<Instance a='1'" ∷ " a=''>" ∷ []) ≡ Err (RepeatedAttribute, 2))
    × (says 27 2 ("<!-- " ∷ "" ∷ []) ≡ Err (Truncated, 27))
    × (says 28 1 [] ≡ Err (Truncated, 28))
unfolding attributes_at pieces_from walk
piece_faults = (refl, refl, refl, refl, refl, refl)

-- ---- which elements stand where, and how often

-- `Structure` may stand behind `Constraints`, and between `Resources` and `Constraints`
pub structure_anywhere :
    (instance_of (pieces (text (moved 3 7 27))) ≡ Ok league)
    × (instance_of (pieces (text (moved 3 7 25))) ≡ Ok league)
unfolding attributes_at pieces_from walk
structure_anywhere = (refl, refl)

-- `Constraints` before `Resources`: at its Start, which is line 10 then
pub constraints_first : instance_of (pieces (text (moved 10 16 27))) ≡ Err (MissingElement, 10)
unfolding attributes_at pieces_from walk
constraints_first = refl

-- `Slots` before `Teams`, and the three parts of a format the other way round
pub any_order :
    (instance_of (pieces (text (moved 11 6 24))) ≡ Ok league)
    × (says 5 3 ("<gameMode>P</gameMode>" ∷ "<compactness>C</compactness>" ∷ "<numberRoundRobin>2</numberRoundRobin>" ∷ []) ≡ Ok league)
unfolding attributes_at pieces_from walk
any_order = (refl, refl)

-- each that is missing is told at the End of the element around it: of `Instance` without `Structure` (28 - 7) and
-- without `Constraints` (28 - 2), of `Structure` (9 - 5), of `Format` (8 - 1), of `Resources` without `Teams` (25 - 6)
-- and `Slots` (25 - 8)
pub missing :
    (says 3 7 [] ≡ Err (MissingElement, 21))
    × (says 26 2 [] ≡ Err (MissingElement, 26))
    × (says 4 5 [] ≡ Err (MissingElement, 4))
    × (says 5 1 [] ≡ Err (MissingElement, 7))
    × (says 6 1 [] ≡ Err (MissingElement, 7))
    × (says 11 6 [] ≡ Err (MissingElement, 19))
    × (says 17 8 [] ≡ Err (MissingElement, 17))
unfolding attributes_at pieces_from walk
missing = (refl, refl, refl, refl, refl, refl, refl)

-- without `Resources` it is the Start of `Constraints` that is told
pub no_resources : says 10 16 [] ≡ Err (MissingElement, 10)
unfolding attributes_at pieces_from walk
no_resources = refl

-- what comes again is told at its Start, whatever stands in it
pub repeated_once :
    (says 10 0 ("<Structure/>" ∷ []) ≡ Err (RepeatedElement, 10))
    × (says 26 0 ("<Resources>" ∷ []) ≡ Err (RepeatedElement, 26))
    × (says 28 0 ("<Constraints/>" ∷ []) ≡ Err (RepeatedElement, 28))
    × (says 9 0 ("<Format/>" ∷ []) ≡ Err (RepeatedElement, 9))
    × (says 8 0 ("<numberRoundRobin/>" ∷ []) ≡ Err (RepeatedElement, 8))
    × (says 8 0 ("<compactness>" ∷ "x</compactness>" ∷ []) ≡ Err (RepeatedElement, 8))
    × (says 17 0 ("<Teams/>" ∷ []) ≡ Err (RepeatedElement, 17))
    × (says 25 0 ("<Slots/>" ∷ []) ≡ Err (RepeatedElement, 25))
unfolding attributes_at pieces_from walk
repeated_once = (refl, refl, refl, refl, refl, refl, refl, refl)

-- two game modes, the second of which would be lawful
pub two_game_modes : says 8 0 ("<gameMode>P</gameMode>" ∷ []) ≡ Err (RepeatedElement, 8)
unfolding attributes_at pieces_from walk
two_game_modes = refl

-- groups come in any order and any number, and a class may stand in any of them
pub groups : says 27 0 ("<SeparationConstraints/>" ∷ "<BasicConstraints>" ∷ "<SE1 teams=\"\" min=\"0\" type=\"HARD\"/>" ∷ "</BasicConstraints>" ∷ "<BasicConstraints/>" ∷ "<GameConstraints>" ∷ "<BR2 type=\"SOFT\" teams=\"\" intp=\"5\" slots=\"\"/>" ∷ "</GameConstraints>" ∷ "<SeparationConstraints/>" ∷ []) ≡ Ok (with_constraints (record { hard = true; penalty = 1; class = Se1 [] 0 } ∷ record { hard = false; penalty = 1; class = Br2 [] 5 [] } ∷ []))
unfolding attributes_at pieces_from walk
groups = refl

-- nothing is passed over among the constraints: another group, a class in no group, a group in a group, another class,
-- another case
pub unsupported :
    (says 27 0 ("<OtherConstraints/>" ∷ []) ≡ Err (UnsupportedClass, 27))
    × (says 27 0 ("<SE1 teams=\"\" min=\"0\" type=\"HARD\"/>" ∷ []) ≡ Err (UnsupportedClass, 27))
    × (says 27 0 ("<GameConstraints>" ∷ "<GameConstraints/>" ∷ []) ≡ Err (UnsupportedClass, 28))
    × (says 27 0 ("<BasicConstraints>" ∷ "<SE2/>" ∷ []) ≡ Err (UnsupportedClass, 28))
    × (says 27 0 ("<BasicConstraints>" ∷ "<se1/>" ∷ []) ≡ Err (UnsupportedClass, 28))
unfolding attributes_at pieces_from walk
unsupported = (refl, refl, refl, refl, refl)

-- ---- what is passed over

-- elsewhere an element that isn't listed is passed over with all in it, also with what would be read or wrong in
-- another place
pub passed_over :
    (says 3 0 ("<a id=\"\" type=\"X\">" ∷ "<Structure><team/></Resources>b" ∷ "</a>" ∷ []) ≡ Ok league)
    × (says 5 0 ("<team/>" ∷ []) ≡ Ok league)
    × (says 11 0 ("<Constraints/>" ∷ "<team id=\"9\"/>" ∷ []) ≡ Ok league)
    × (says 12 0 ("<slot/>" ∷ []) ≡ Ok league)
    × (says 18 0 ("<team id=\"4\"/>" ∷ []) ≡ Ok league)
unfolding attributes_at pieces_from walk
passed_over = (refl, refl, refl, refl, refl)

-- up to the first End of its own name: that of the inner `<a/>`, so that `</a>` is judged in `Instance`
pub passed_over_in_itself :
    (says 3 0 ("<a>" ∷ "<a/>" ∷ "</a>" ∷ []) ≡ Err (BadNesting, 5))
    × (says 3 0 ("<a>" ∷ "<a><b></a>" ∷ []) ≡ Ok league)
unfolding attributes_at pieces_from walk
passed_over_in_itself = (refl, refl)

-- one that doesn't end is passed over up to the file's end, on line 30 since one line more stands there; a fault of a
-- piece counts in it
pub passed_over_to_the_end :
    (says 3 0 ("<a>" ∷ []) ≡ Err (Truncated, 30))
    × (says 3 0 ("<a>" ∷ "</a b>" ∷ []) ≡ Err (BadTag, 4))
unfolding attributes_at pieces_from walk
passed_over_to_the_end = (refl, refl)

-- ---- Ends

-- an End of another element, also of one around: `</Instance>` in `Format`, `</Teams>` in `Slots`
pub ends_another :
    (says 8 0 ("</Instance>" ∷ []) ≡ Err (BadNesting, 8))
    × (says 18 0 ("</Teams>" ∷ []) ≡ Err (BadNesting, 18))
unfolding attributes_at pieces_from walk
ends_another = (refl, refl)

-- whose End it is comes before what is missing
pub end_before_missing :
    (says 3 25 [] ≡ Err (MissingElement, 3))
    × (says 3 26 ("</Structure>" ∷ []) ≡ Err (BadNesting, 3))
unfolding attributes_at pieces_from walk
end_before_missing = (refl, refl)

-- ---- elements whose text is a value

-- the text of a value is joined around comments and declarations, and freed of white bytes at both ends
pub value_joined :
    (says 5 1 ("<numberRoundRobin> <!-- two --> 0<?x?>2" ∷ "</numberRoundRobin>" ∷ []) ≡ Ok league)
    × (says 6 1 ("<compactness>\t\r" ∷ "C </compactness>" ∷ []) ≡ Ok league)
    × (says 7 1 ("<gameMode>N<!-- -->ULL</gameMode>" ∷ []) ≡ Ok unphased)
unfolding attributes_at pieces_from walk
value_joined = (refl, refl, refl)

-- white bytes within the text of a value stay
pub value_apart : says 7 1 ("<gameMode>NU LL</gameMode>" ∷ []) ≡ Err (BadChoice, 7)
unfolding attributes_at pieces_from walk
value_apart = refl

-- any other tag in it, and any other End, is told at its own line
pub value_without_tags :
    (says 5 1 ("<numberRoundRobin>2" ∷ "<a/></numberRoundRobin>" ∷ []) ≡ Err (BadNesting, 6))
    × (says 6 1 ("<compactness>C" ∷ "<a/></compactness>" ∷ []) ≡ Err (BadNesting, 7))
    × (says 6 1 ("<compactness>C" ∷ "</Format>" ∷ []) ≡ Err (BadNesting, 7))
    × (says 7 1 ("<gameMode>" ∷ "<gameMode/>" ∷ []) ≡ Err (BadNesting, 8))
unfolding attributes_at pieces_from walk
value_without_tags = (refl, refl, refl, refl)

-- the fault of a value is on the line of its Start: two rounds alone, `C` alone, and a number's faults before its value
pub value_fault :
    (says 5 1 ("<numberRoundRobin>" ∷ "1" ∷ "</numberRoundRobin>" ∷ []) ≡ Err (WrongCounts, 5))
    × (says 5 1 ("<numberRoundRobin/>" ∷ []) ≡ Err (BadNumber, 5))
    × (says 5 1 ("<numberRoundRobin>2.0</numberRoundRobin>" ∷ []) ≡ Err (BadNumber, 5))
    × (says 5 1 ("<numberRoundRobin>4294967296</numberRoundRobin>" ∷ []) ≡ Err (NumberTooLarge, 5))
    × (says 6 1 ("<compactness>" ∷ "R</compactness>" ∷ []) ≡ Err (BadChoice, 6))
    × (says 6 1 ("<compactness/>" ∷ []) ≡ Err (BadChoice, 6))
    × (says 7 1 ("<gameMode>p</gameMode>" ∷ []) ≡ Err (BadChoice, 7))
unfolding attributes_at pieces_from walk
value_fault = (refl, refl, refl, refl, refl, refl, refl)

-- the league isn't phased by `NULL`, an empty game mode in each of its forms, and none
pub not_phased :
    (says 7 1 ("<gameMode>NULL</gameMode>" ∷ []) ≡ Ok unphased)
    × (says 7 1 ("<gameMode/>" ∷ []) ≡ Ok unphased)
    × (says 7 1 ("<gameMode> <!-- P --> </gameMode>" ∷ []) ≡ Ok unphased)
    × (says 7 1 [] ≡ Ok unphased)
unfolding attributes_at pieces_from walk
not_phased = (refl, refl, refl, refl)

-- ---- elements in which no tag may stand

-- text may stand in a team; a tag in it is told at its own line, and the team's attributes are read before
pub leaf_team :
    (says 12 1 ("<team id=\"0\">North</team>" ∷ []) ≡ Ok league)
    × (says 12 1 ("<team id=\"0\">" ∷ "<a/></team>" ∷ []) ≡ Err (BadNesting, 13))
    × (says 12 1 ("<team id=\"0\">" ∷ "</Teams>" ∷ []) ≡ Err (BadNesting, 13))
    × (says 12 1 ("<team>" ∷ "<a/></team>" ∷ []) ≡ Err (MissingAttribute, 12))
unfolding attributes_at pieces_from walk
leaf_team = (refl, refl, refl, refl)

-- text may stand in a slot, and in a class, in which no class may stand either; a tag in them is told at its own line
pub leaf_others :
    (says 18 1 ("<slot id=\"0\">" ∷ "<slot id=\"0\"/></slot>" ∷ []) ≡ Err (BadNesting, 19))
    × (says 27 0 ("<BasicConstraints>" ∷ "<SE1 teams=\"\" min=\"0\" type=\"HARD\">" ∷ "<SE1 teams=\"\" min=\"0\" type=\"HARD\"/>" ∷ []) ≡ Err (BadNesting, 29))
    × (says 27 0 ("<BasicConstraints>" ∷ "<SE1 teams=\"\" min=\"0\">" ∷ "<a/>" ∷ []) ≡ Err (MissingAttribute, 28))
unfolding attributes_at pieces_from walk
leaf_others = (refl, refl, refl)

-- ---- the teams and the slots

-- their ids may come in any order, with leading zeros
pub ids_in_any_order :
    (says 12 4 ("<team id=\"3\"/>" ∷ "<team id=\"0\"/>" ∷ "<team id=\"002\"/>" ∷ "<team id=\"1\"/>" ∷ []) ≡ Ok league)
    × (says 18 2 ("<slot id=\"1\"/>" ∷ "<slot id=\"0\"/>" ∷ []) ≡ Ok league)
unfolding attributes_at pieces_from walk
ids_in_any_order = (refl, refl)

-- at the End of `Resources`, line 25: an id twice, an id too high, and the same of the slots
pub ids_each_once :
    (says 13 1 ("<team id=\"2\"/>" ∷ []) ≡ Err (WrongCounts, 25))
    × (says 15 1 ("<team id=\"4\"/>" ∷ []) ≡ Err (WrongCounts, 25))
    × (says 18 1 ("<slot id=\"5\"/>" ∷ []) ≡ Err (WrongCounts, 25))
    × (says 23 1 ("<slot id=\"6\"/>" ∷ []) ≡ Err (WrongCounts, 25))
unfolding attributes_at pieces_from walk
ids_each_once = (refl, refl, refl, refl)

-- one slot too few, one too many; three teams with the four slots that 2 (n - 1) would be; no team at all
pub as_many_as_needed :
    (says 23 1 [] ≡ Err (WrongCounts, 24))
    × (says 24 0 ("<slot id=\"6\"/>" ∷ []) ≡ Err (WrongCounts, 26))
    × (says 12 12 ("<team id=\"0\"/>" ∷ "<team id=\"1\"/>" ∷ "<team id=\"2\"/>" ∷ "</Teams>" ∷ "<Slots>" ∷ "<slot id=\"0\"/>" ∷ "<slot id=\"1\"/>" ∷ "<slot id=\"2\"/>" ∷ "<slot id=\"3\"/>" ∷ []) ≡ Err (WrongCounts, 22))
    × (says 12 4 [] ≡ Err (WrongCounts, 21))
unfolding attributes_at pieces_from walk
as_many_as_needed = (refl, refl, refl, refl)

-- two teams and two slots are a league
pub two_teams : says 12 12 ("<team id=\"0\"/>" ∷ "<team id=\"1\"/>" ∷ "</Teams>" ∷ "<Slots>" ∷ "<slot id=\"0\"/>" ∷ "<slot id=\"1\"/>" ∷ []) ≡ Ok (record { n = 2; phased = true; constraints = [] })
unfolding attributes_at pieces_from walk
two_teams = refl

-- an id is a number, and it has to be there
pub id_is_a_number :
    (says 12 1 ("<team id=\"\"/>" ∷ []) ≡ Err (BadNumber, 12))
    × (says 12 1 ("<team id=\"-1\"/>" ∷ []) ≡ Err (BadNumber, 12))
    × (says 12 1 ("<team id=\"4294967296\"/>" ∷ []) ≡ Err (NumberTooLarge, 12))
    × (says 18 1 ("<slot name=\"0\"/>" ∷ []) ≡ Err (MissingAttribute, 18))
unfolding attributes_at pieces_from walk
id_is_a_number = (refl, refl, refl, refl)

-- what is missing comes before what is counted: three teams, and no slots
pub missing_before_counts : says 15 10 ("</Teams>" ∷ []) ≡ Err (MissingElement, 16)
unfolding attributes_at pieces_from walk
missing_before_counts = refl

-- ---- solutions

-- other elements may stand around the games and between them, and a game as often as it is listed
pub games_in_file_order : plays 3 14 ("<MetaData>" ∷ "<ObjectiveValue objective=\"0\"/>" ∷ "</MetaData>" ∷
    "<ScheduledMatch/>" ∷ "<Games>" ∷ "<ScheduledMatch slot=\"05\" away=\"1\" home=\"2\"/>" ∷ "<a><ScheduledMatch/></a>"
    ∷ "<ScheduledMatch home=\"0\" away=\"3\" slot=\"0\"/>" ∷
    "<ScheduledMatch home=\"2\" away=\"1\" slot=\"5\"></ScheduledMatch>" ∷ "</Games>" ∷ [])
    ≡ Ok (game 2 1 5 ∷ game 0 3 0 ∷ game 2 1 5 ∷ [])
unfolding attributes_at pieces_from walk
games_in_file_order = refl

-- no game may be listed; `Games` has to be there, once
pub games_once :
    (plays 3 14 ("<Games/>" ∷ []) ≡ Ok [])
    × (plays 3 14 [] ≡ Err (MissingElement, 3))
    × (plays 17 0 ("<Games>" ∷ []) ≡ Err (RepeatedElement, 17))
unfolding attributes_at pieces_from walk
games_once = (refl, refl, refl)

-- a game's faults, from left to right: home, away, slot, and then the two teams, all on its line
pub game_fault :
    (plays 5 1 ("<ScheduledMatch slot=\"6\" away=\"x\" home=\"4\"/>" ∷ []) ≡ Err (UnknownTeam, 5))
    × (plays 5 1 ("<ScheduledMatch slot=\"6\" away=\"x\" home=\"3\"/>" ∷ []) ≡ Err (BadNumber, 5))
    × (plays 5 1 ("<ScheduledMatch slot=\"6\" away=\"4\" home=\"3\"/>" ∷ []) ≡ Err (UnknownTeam, 5))
    × (plays 5 1 ("<ScheduledMatch slot=\"6\" away=\"3\" home=\"3\"/>" ∷ []) ≡ Err (UnknownSlot, 5))
    × (plays 5 1 ("<ScheduledMatch slot=\"5\" away=\"3\" home=\"3\"/>" ∷ []) ≡ Err (SameTeam, 5))
unfolding attributes_at pieces_from walk
game_fault = (refl, refl, refl, refl, refl)

-- home, away and slot of a game have to be there
pub game_whole :
    (plays 5 1 ("<ScheduledMatch away=\"0\" slot=\"0\"/>" ∷ []) ≡ Err (MissingAttribute, 5))
    × (plays 5 1 ("<ScheduledMatch home=\"3\" slot=\"0\"/>" ∷ []) ≡ Err (MissingAttribute, 5))
    × (plays 5 1 ("<ScheduledMatch home=\"3\" away=\"0\"/>" ∷ []) ≡ Err (MissingAttribute, 5))
unfolding attributes_at pieces_from walk
game_whole = (refl, refl, refl)

-- no tag may stand in a game
pub leaf_game : plays 4 1 ("<ScheduledMatch home=\"3\" away=\"0\" slot=\"0\">" ∷ "<a/>" ∷ []) ≡ Err (BadNesting, 5)
unfolding attributes_at pieces_from walk
leaf_game = refl

-- the teams and slots are those of the league: of two teams only 0 and 1, in slots 0 and 1
pub games_of_the_league :
    (solution_of 2 (pieces c4) ≡ Err (UnknownTeam, 4))
    × (solution_of 2 (pieces (codes "<Solution><Games><ScheduledMatch home=\"0\" away=\"1\" slot=\"2\"/></Games></Solution>")) ≡ Err (UnknownSlot, 1))
unfolding attributes_at pieces_from walk
games_of_the_league = (refl, refl)
