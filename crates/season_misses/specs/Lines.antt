-- The line of each class: where it is missed, by how much, and by which games.
use Rattle.std.specs.Prelude.{ℕ, ◌+◌, ◌==◌, nat_lt, if◌then◌else◌, List, [], ◌∷◌, ◌++◌, length, map, codes, decimal}
use Rattle.std.specs.Prelude.{slice_index, slice_index_or}
use Rattle.std.specs.List.{filter, flat_map}
use Rattle.league.specs.Bounds.{excess}
use Rattle.league.specs.Meetings.{pairs_of}
use Rattle.league.specs.Separation.{slots_between}
use Rattle.league.specs.declared.class.Class.{Class}
use Rattle.league.specs.declared.class.Class.TheVariants.{Ca1, Ca2, Ca3, Ca4, Ga1, Br1, Br2, Fa2, Se1}
use Rattle.league.specs.declared.class.Side.{Side}
use Rattle.league.specs.declared.class.Side.TheVariants.{H, A, Both}
use Rattle.league.specs.declared.class.Span.{Span}
use Rattle.league.specs.declared.class.Span.TheVariants.{Global, Every}
use Rattle.league.specs.declared.game.Game.{Game}
use Rattle.season_misses.specs.Phrases.{listed, many, name_of}
use Rattle.season_misses.specs.declared.reason.Break.{Break}
use Rattle.season_misses.specs.declared.reason.Cause.{Cause}
use Rattle.season_misses.specs.declared.reason.Cause.TheVariants.{Games, Window, Breaks, Lead, Gap}
use Rattle.season_misses.specs.Amounts.{beyond_text, count_text, stretch_text, there_text, windows_text}
use Rattle.season_misses.specs.Games.{games_after, games_text}
use Rattle.season_misses.specs.Rows.{Row}

-- ---- CA1 to CA4 and GA1

-- a team has so many games, outside of two bounds: `Ajax has 2, 1 too many: ..`
abbrev pub has_line : List (List ℕ) → List ℕ → ℕ → ℕ → List Game → List ℕ
has_line names who min max games =
    who ++ (codes " has " ++ (count_text (length games)
    ++ (codes ", " ++ (beyond_text min max (length games) ++ games_after names games))))

-- the same in a stretch of slots: `Ajax has 2 in slots 3 and 4, 1 too many: ..`
abbrev pub stretch_line : List (List ℕ) → List ℕ → ℕ → ℕ → List ℕ → List ℕ → List Game → List ℕ
stretch_line names who min max stretch windows games =
    who ++ (codes " has " ++ (count_text (length games) ++ (codes " in " ++ (stretch
    ++ (codes ", " ++ (beyond_text min max (length games) ++ (windows ++ games_after names games)))))))

-- there are so many games: `there are 2 in slot 0, 1 too many: ..`
abbrev pub there_line : List (List ℕ) → ℕ → ℕ → List ℕ → List Game → List ℕ
there_line names min max place games =
    there_text (length games) ++ (place
    ++ (codes ", " ++ (beyond_text min max (length games) ++ games_after names games)))

-- the slot of a CA4 that bounds each slot by itself
abbrev pub span_place : Span → List ℕ → ℕ → List ℕ
span_place Global slots key = []
span_place Every slots key = codes " in slot " ++ decimal (slice_index slots key)

-- the games that are counted, of those classes; a line of one window or more begins with the slot of the first
abbrev pub games_told : Cause → List Game
games_told (Games games) = games
games_told (Window first games) = games
games_told _ = []

abbrev pub slot_told : Cause → ℕ
slot_told (Window first games) = first.0
slot_told _ = 0

-- CA3: windows of intp slots that hold the same games
abbrev pub window_line : ℕ → List (List ℕ) → List ℕ → ℕ → ℕ → ℕ → Row → List ℕ
window_line n names who min max intp row =
    stretch_line names who min max (stretch_text n (slot_told row.reason.cause) (row.more + intp))
    (windows_text row.more intp) (games_told row.reason.cause)

-- ---- BR1 and BR2

abbrev pub breaks_told : Cause → List Break
breaks_told (Breaks breaks) = breaks
breaks_told _ = []

-- where a break is
abbrev pub venue_text : Side → List ℕ
venue_text H = codes "at home"
venue_text A = codes "away"
venue_text Both = []

-- a break with its games: `away Brug - Club (0), Dam - Club (1)`
abbrev pub break_text : List (List ℕ) → Break → List ℕ
break_text names b = venue_text b.side ++ (codes " " ++ games_text names b.games)

-- a break after another
abbrev pub next_break : List (List ℕ) → Break → List ℕ
next_break names b = codes "; " ++ break_text names b

-- breaks in a row
abbrev pub breaks_text : List (List ℕ) → List Break → List ℕ
breaks_text names [] = []
breaks_text names (b ∷ breaks) = break_text names b ++ flat_map (next_break names) breaks

-- a team has too many breaks: `Club has 2, 1 too many: ..`
abbrev pub breaks_line : List (List ℕ) → List ℕ → ℕ → List Break → List ℕ
breaks_line names who intp breaks =
    who ++ (codes " has " ++ (decimal (length breaks)
    ++ (codes ", " ++ (decimal (excess (length breaks) intp)
    ++ (codes " too many: " ++ breaks_text names breaks)))))

-- there are too many breaks: `there are 6, 1 too many`
abbrev pub all_breaks_line : ℕ → List Break → List ℕ
all_breaks_line intp breaks =
    there_text (length breaks) ++ (codes ", " ++ (decimal (excess (length breaks) intp) ++ codes " too many"))

-- a break by its later slot: `at home (4)`
abbrev pub break_slot : Break → List ℕ
break_slot b = venue_text b.side ++ (codes " (" ++ (decimal b.slot.0 ++ codes ")"))

abbrev pub next_break_slot : Break → List ℕ
next_break_slot b = codes ", " ++ break_slot b

-- a team with some breaks: `Ajax at home (4), away (9)`; nothing of a team without any
abbrev pub team_breaks : List ℕ → List Break → List (List ℕ)
team_breaks who [] = []
team_breaks who (b ∷ breaks) = (who ++ (codes " " ++ (break_slot b ++ flat_map next_break_slot breaks))) ∷ []

-- the breaks of a team
abbrev pub breaks_by : List Break → ℕ → List Break
breaks_by breaks team = filter (λ b. b.team.0 == team) breaks

-- each team that has breaks, with these
abbrev pub breaks_by_team : List (List ℕ) → List Break → List ℕ → List (List ℕ)
breaks_by_team names breaks teams = flat_map (λ t. team_breaks (name_of names t) (breaks_by breaks t)) teams

-- ---- FA2

-- the slots of games: `0, 2 and 3`
abbrev pub slots_of_games : List Game → List ℕ
slots_of_games games = listed (codes "and") (map (λ g. decimal g.slot.0) games)

-- where a team played at home, where it did: `; Club in 3`
abbrev pub played_too : List ℕ → List Game → List ℕ
played_too who [] = []
played_too who (g ∷ games) = codes "; " ++ (who ++ (codes " in " ++ slots_of_games (g ∷ games)))

-- how many home games two teams have after a slot: `after slot 1 Dam has 2 home games and Club none`
abbrev pub apart_front : ℕ → List ℕ → List Game → List ℕ → List Game → List ℕ
apart_front slot who games other fewer =
    codes "after slot " ++ (decimal slot ++ (codes " " ++ (who ++ (codes " has " ++ (many (length games) (codes "home game")
    ++ (codes " and " ++ (other ++ (codes " " ++ count_text (length fewer)))))))))

-- how far they are apart, and in which slots the games are: `2 apart, 1 too many: Dam in 0 and 1`
abbrev pub apart_back : ℕ → List ℕ → List Game → List ℕ → List Game → List ℕ
apart_back intp who games other fewer =
    decimal (excess (length games) (length fewer))
    ++ (codes " apart, " ++ (decimal (excess (excess (length games) (length fewer)) intp)
    ++ (codes " too many: " ++ (who ++ (codes " in " ++ (slots_of_games games ++ played_too other fewer))))))

-- two teams too far apart after a slot, the one with more home games first
abbrev pub apart_line : ℕ → ℕ → List ℕ → List Game → List ℕ → List Game → List ℕ
apart_line intp slot who games other fewer =
    apart_front slot who games other fewer ++ (codes ", " ++ apart_back intp who games other fewer)

abbrev pub lead_line : ℕ → ℕ → List ℕ → List ℕ → List Game → List Game → List ℕ
lead_line intp slot who other first second =
    if nat_lt (length second) (length first)
    then apart_line intp slot who first other second
    else apart_line intp slot other second who first

abbrev pub lead_text : ℕ → List ℕ → List ℕ → Cause → List ℕ
lead_text intp who other (Lead slot first second) = lead_line intp slot.0 who other first second
lead_text intp who other _ = []

-- ---- SE1

-- two teams that meet again: `Ajax and Club meet in slots 2 and 4`
abbrev pub gap_front : List ℕ → List ℕ → Game → Game → List ℕ
gap_front who other earlier later =
    who ++ (codes " and " ++ (other ++ (codes " meet in slots " ++ (decimal earlier.slot.0
    ++ (codes " and " ++ decimal later.slot.0)))))

-- how many slots are between, and by which games: `1 slot between, 1 too few: ..`
abbrev pub gap_back : List (List ℕ) → ℕ → Game → Game → List ℕ
gap_back names min earlier later =
    let between = slots_between earlier.slot.0 later.slot.0 in
    many between (codes "slot") ++ (codes " between, " ++ (decimal (excess min between)
    ++ (codes " too few: " ++ games_text names (earlier ∷ later ∷ []))))

-- two teams that meet again too soon
abbrev pub gap_line : List (List ℕ) → ℕ → List ℕ → List ℕ → Game → Game → List ℕ
gap_line names min who other earlier later =
    gap_front who other earlier later ++ (codes ", " ++ gap_back names min earlier later)

abbrev pub gap_text : List (List ℕ) → ℕ → List ℕ → List ℕ → Cause → List ℕ
gap_text names min who other (Gap earlier later) = gap_line names min who other earlier later
gap_text names min who other _ = []

-- ---- any class

-- the two teams of a key
abbrev pub pair_at : List ℕ → ℕ → ℕ × ℕ
pair_at teams key = slice_index_or (pairs_of teams) key (0, 0)

-- the line of a row, in a league of n teams
abbrev pub line_of : ℕ → List (List ℕ) → Class → Row → List ℕ
line_of n names (Ca1 teams min max side slots) row =
    has_line names (name_of names (slice_index teams row.reason.key)) min max (games_told row.reason.cause)
line_of n names (Ca2 teams1 teams2 min max side slots) row =
    has_line names (name_of names (slice_index teams1 row.reason.key)) min max (games_told row.reason.cause)
line_of n names (Ca3 teams1 teams2 min max intp side) row =
    window_line n names (name_of names (slice_index teams1 row.reason.key)) min max intp row
line_of n names (Ca4 teams1 teams2 min max side span slots) row =
    there_line names min max (span_place span slots row.reason.key) (games_told row.reason.cause)
line_of n names (Ga1 meetings min max slots) row = there_line names min max [] (games_told row.reason.cause)
line_of n names (Br1 teams intp side slots) row =
    breaks_line names (name_of names (slice_index teams row.reason.key)) intp (breaks_told row.reason.cause)
line_of n names (Br2 teams intp slots) row = all_breaks_line intp (breaks_told row.reason.cause)
line_of n names (Fa2 teams intp slots) row =
    let p = pair_at teams row.reason.key in
    lead_text intp (name_of names p.0) (name_of names p.1) row.reason.cause
line_of n names (Se1 teams min) row =
    let p = pair_at teams row.reason.key in
    gap_text names min (name_of names p.0) (name_of names p.1) row.reason.cause
