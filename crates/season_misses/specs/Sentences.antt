-- The parts of the sentence of any class but GA1: of whom, what, against whom, and when.
use Rattle.std.specs.Prelude.{ℕ, Bool, true, false, ◌&&◌, ◌==◌, nat_lt, if◌then◌else◌, List, [], ◌++◌, length, codes}
use Rattle.league.specs.declared.class.Class.{Class}
use Rattle.league.specs.declared.class.Class.TheVariants.{Ca1, Ca2, Ca3, Ca4, Ga1, Br1, Br2, Fa2, Se1}
use Rattle.season_misses.specs.Demands.{apart_text, between_text, break_noun, game_noun, span_slots}
use Rattle.season_misses.specs.Phrases.{against_teams, all_slots, all_teams, bounds_text, each_slot, each_team}
use Rattle.season_misses.specs.Phrases.{two_teams, windows_text}

-- whether a class is told by these parts
abbrev pub has_parts : Class → Bool
has_parts (Ga1 meetings min max slots) = false
has_parts _ = true

-- whether a class bounds a number of games or of breaks
abbrev pub bounds_many : Class → Bool
bounds_many (Fa2 teams intp slots) = false
bounds_many (Se1 teams min) = false
bounds_many _ = true

-- the teams that are bound
abbrev pub who : ℕ → List (List ℕ) → Class → List ℕ
who n names (Ca1 teams min max side slots) = each_team n names teams
who n names (Ca2 teams1 teams2 min max side slots) = each_team n names teams1
who n names (Ca3 teams1 teams2 min max intp side) = each_team n names teams1
who n names (Ca4 teams1 teams2 min max side span slots) = all_teams n names teams1
who n names (Ga1 meetings min max slots) = []
who n names (Br1 teams intp side slots) = each_team n names teams
who n names (Br2 teams intp slots) = all_teams n names teams
who n names (Fa2 teams intp slots) = two_teams n names teams
who n names (Se1 teams min) = two_teams n names teams

-- what they may do, and how often
abbrev pub what : Class → List ℕ
what (Ca1 teams min max side slots) = bounds_text min max (game_noun side)
what (Ca2 teams1 teams2 min max side slots) = bounds_text min max (game_noun side)
what (Ca3 teams1 teams2 min max intp side) = bounds_text min max (game_noun side)
what (Ca4 teams1 teams2 min max side span slots) = bounds_text min max (game_noun side)
what (Ga1 meetings min max slots) = bounds_text min max (codes "game")
what (Br1 teams intp side slots) = bounds_text 0 intp (break_noun side)
what (Br2 teams intp slots) = bounds_text 0 intp (codes "break")
what (Fa2 teams intp slots) = apart_text intp
what (Se1 teams min) = between_text min

-- against whom
abbrev pub against : ℕ → List (List ℕ) → Class → List ℕ
against n names (Ca2 teams1 teams2 min max side slots) = against_teams n names teams2
against n names (Ca3 teams1 teams2 min max intp side) = against_teams n names teams2
against n names (Ca4 teams1 teams2 min max side span slots) = against_teams n names teams2
against n names _ = []

-- what stands before the slots, where they are told by themselves
abbrev pub link : Class → List ℕ
link (Ca3 teams1 teams2 min max intp side) = []
link (Ga1 meetings min max slots) = []
link (Fa2 teams intp slots) = []
link (Se1 teams min) = []
link _ = codes " in "

-- the slots
abbrev pub place : ℕ → Class → List ℕ
place n (Ca1 teams min max side slots) = all_slots n slots
place n (Ca2 teams1 teams2 min max side slots) = all_slots n slots
place n (Ca3 teams1 teams2 min max intp side) = windows_text n intp
place n (Ca4 teams1 teams2 min max side span slots) = span_slots n span slots
place n (Ga1 meetings min max slots) = []
place n (Br1 teams intp side slots) = all_slots n slots
place n (Br2 teams intp slots) = all_slots n slots
place n (Fa2 teams intp slots) = each_slot n slots
place n (Se1 teams min) = []

-- all of them
abbrev pub parts_text : ℕ → List (List ℕ) → Class → List ℕ
parts_text n names class =
    who n names class ++ (codes ": " ++ (what class ++ (against n names class ++ (link class ++ place n class))))

-- whether a GA1 is about one meeting that is to be there, or isn't
abbrev pub is_one : ℕ → ℕ → List (ℕ × ℕ) → Bool
is_one min max meetings = (length meetings == 1) && (min == max) && nat_lt max 2

-- what stands before its slots
abbrev pub not_text : ℕ → List ℕ
not_text max = if max == 0 then codes "not " else []
