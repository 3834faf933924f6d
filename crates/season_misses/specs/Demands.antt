-- What a constraint demands, in words with the names of teams.
use Rattle.std.specs.Prelude.{ℕ, ◌&&◌, ◌==◌, nat_lt, if◌then◌else◌, List, [], ◌∷◌, ◌++◌, map, codes, decimal}
use Rattle.league.specs.Names.{name_of as class_name_of, name_text}
use Rattle.league.specs.declared.class.Class.{Class}
use Rattle.league.specs.declared.class.Class.TheVariants.{Ca1, Ca2, Ca3, Ca4, Ga1, Br1, Br2, Fa2, Se1}
use Rattle.league.specs.declared.class.Constraint.{Constraint}
use Rattle.league.specs.declared.class.Side.{Side}
use Rattle.league.specs.declared.class.Side.TheVariants.{H, A, Both}
use Rattle.league.specs.declared.class.Span.{Span}
use Rattle.league.specs.declared.class.Span.TheVariants.{Global, Every}
use Rattle.season_misses.specs.Phrases.{all_slots, all_teams, against_teams, bare_bounds_text, bounds_text, each_slot}
use Rattle.season_misses.specs.Phrases.{each_team, listed, many, name_of, two_teams, windows_text}

-- a game, or a break, on a side
abbrev pub game_noun : Side → List ℕ
game_noun H = codes "home game"
game_noun A = codes "away game"
game_noun Both = codes "game"

abbrev pub break_noun : Side → List ℕ
break_noun H = codes "home break"
break_noun A = codes "away break"
break_noun Both = codes "break"

-- what follows who: `Ajax: at most 1 game against Brug in slot 2`
abbrev pub sentence : List ℕ → List ℕ → List ℕ → List ℕ
sentence who what place = who ++ (codes ": " ++ (what ++ place))

-- the slots of a CA4
abbrev pub span_slots : ℕ → Span → List ℕ → List ℕ
span_slots n Global slots = all_slots n slots
span_slots n Every slots = each_slot n slots

-- a game by its meeting
abbrev pub meeting_text : List (List ℕ) → ℕ × ℕ → List ℕ
meeting_text names p = name_of names p.0 ++ (codes " - " ++ name_of names p.1)

-- a GA1 of some meetings: one game that is to be there, or isn't, is told as such
abbrev pub meetings_text : List (List ℕ) → ℕ → ℕ → List (ℕ × ℕ) → List ℕ → List ℕ
meetings_text names min max [] place = codes "of no game: " ++ (bare_bounds_text min max ++ (codes " in " ++ place))
meetings_text names min max (p ∷ []) place =
    if (min == max) && nat_lt max 2
    then codes "the game " ++ (meeting_text names p
    ++ (codes ": " ++ ((if max == 0 then codes "not " else []) ++ (codes "in " ++ place))))
    else codes "of the games " ++ (meeting_text names p
    ++ (codes ": " ++ (bare_bounds_text min max ++ (codes " in " ++ place))))
meetings_text names min max (p ∷ q ∷ meetings) place =
    codes "of the games " ++ (listed (codes "and") (map (meeting_text names) (p ∷ q ∷ meetings))
    ++ (codes ": " ++ (bare_bounds_text min max ++ (codes " in " ++ place))))

-- how far apart two teams may be
abbrev pub apart_text : ℕ → List ℕ
apart_text intp =
    if intp == 0 then codes "no home game apart after "
    else codes "at most " ++ (many intp (codes "home game") ++ codes " apart after ")

-- how many slots between two games
abbrev pub between_text : ℕ → List ℕ
between_text min =
    if min == 0 then codes "any number of slots between their games"
    else codes "at least " ++ (many min (codes "slot") ++ codes " between their games")

-- what a constraint of a league of n teams demands
abbrev pub demand_text : ℕ → List (List ℕ) → Class → List ℕ
demand_text n names (Ca1 teams min max side slots) =
    sentence (each_team n names teams) (bounds_text min max (game_noun side)) (codes " in " ++ all_slots n slots)
demand_text n names (Ca2 teams1 teams2 min max side slots) =
    sentence (each_team n names teams1) (bounds_text min max (game_noun side))
    (against_teams n names teams2 ++ (codes " in " ++ all_slots n slots))
demand_text n names (Ca3 teams1 teams2 min max intp side) =
    sentence (each_team n names teams1) (bounds_text min max (game_noun side))
    (against_teams n names teams2 ++ windows_text n intp)
demand_text n names (Ca4 teams1 teams2 min max side span slots) =
    sentence (all_teams n names teams1) (bounds_text min max (game_noun side))
    (against_teams n names teams2 ++ (codes " in " ++ span_slots n span slots))
demand_text n names (Ga1 meetings min max slots) = meetings_text names min max meetings (all_slots n slots)
demand_text n names (Br1 teams intp side slots) =
    sentence (each_team n names teams) (bounds_text 0 intp (break_noun side)) (codes " in " ++ all_slots n slots)
demand_text n names (Br2 teams intp slots) =
    sentence (all_teams n names teams) (bounds_text 0 intp (codes "break")) (codes " in " ++ all_slots n slots)
demand_text n names (Fa2 teams intp slots) =
    sentence (two_teams n names teams) (apart_text intp) (each_slot n slots)
demand_text n names (Se1 teams min) = sentence (two_teams n names teams) (between_text min) []

-- a constraint of a league: hard or soft, its number, its class, and what it demands
abbrev pub constraint_text : ℕ → List (List ℕ) → ℕ → Constraint → List ℕ
constraint_text n names number c =
    (if c.hard then codes "hard" else codes "soft") ++ (codes " " ++ (decimal number
    ++ (codes " " ++ (codes (name_text (class_name_of c.class)) ++ (codes ": " ++ demand_text n names c.class)))))
