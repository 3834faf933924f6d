-- The parts of a sentence: how many, which teams, and which slots. A text is the list of its bytes, and the teams have
-- their names in a list, by number.
use Rattle.std.specs.Prelude.{ℕ, ◌+◌, ◌==◌, nat_lt, if◌then◌else◌, List, [], ◌∷◌, ◌++◌, length, map, codes, decimal}
use Rattle.std.specs.Prelude.{slice_index_or}
use Rattle.std.specs.List.{flat_map}
use Rattle.league.specs.Counts.{slot_count}

-- ---- how many

-- `no game`, `1 game`, `2 games`
abbrev pub many : ℕ → List ℕ → List ℕ
many count noun =
    if count == 0 then codes "no " ++ noun
    else if count == 1 then codes "1 " ++ noun
    else decimal count ++ (codes " " ++ (noun ++ codes "s"))

-- from low to high of something, which is told once, at the end
abbrev pub bounds_text : ℕ → ℕ → List ℕ → List ℕ
bounds_text low high noun =
    if nat_lt high low
    then codes "at least " ++ (decimal low ++ (codes " and at most " ++ (many high noun ++ codes ", which can't both be,")))
    else if high == 0 then many 0 noun
    else if low == high then codes "exactly " ++ many high noun
    else if low == 0 then codes "at most " ++ many high noun
    else codes "from " ++ (decimal low ++ (codes " to " ++ many high noun))

-- from low to high of something that was told before
abbrev pub bare_bounds_text : ℕ → ℕ → List ℕ
bare_bounds_text low high =
    if nat_lt high low
    then codes "at least " ++ (decimal low ++ (codes " and at most " ++ (decimal high ++ codes ", which can't both be,")))
    else if high == 0 then codes "none"
    else if low == high then codes "exactly " ++ decimal high
    else if low == 0 then codes "at most " ++ decimal high
    else codes "from " ++ (decimal low ++ (codes " to " ++ decimal high))

-- ---- lists

-- texts in a row, with a word before the last: `A`, `A and B`, `A, B and C`
abbrev pub listed : List ℕ → List (List ℕ) → List ℕ
listed word [] = []
listed word (x ∷ []) = x
listed word (x ∷ y ∷ []) = x ++ (codes " " ++ (word ++ (codes " " ++ y)))
listed word (x ∷ y ∷ z ∷ items) = x ++ (codes ", " ++ listed word (y ∷ z ∷ items))

-- ---- teams

-- the name of a team
abbrev pub name_of : List (List ℕ) → ℕ → List ℕ
name_of names team = slice_index_or names team []

-- some teams by their names, with a text before and one after where they are two or more
abbrev pub teams_text : List (List ℕ) → List ℕ → List ℕ → List ℕ → List ℕ → List ℕ
teams_text names front word back [] = codes "no team"
teams_text names front word back (team ∷ []) = name_of names team
teams_text names front word back (team ∷ other ∷ teams) =
    front ++ (listed word (map (name_of names) (team ∷ other ∷ teams)) ++ back)

-- each of some teams of a league of n teams
abbrev pub each_team : ℕ → List (List ℕ) → List ℕ → List ℕ
each_team n names teams =
    if length teams == n then codes "each team" else teams_text names (codes "each of ") (codes "and") [] teams

-- some teams together
abbrev pub all_teams : ℕ → List (List ℕ) → List ℕ → List ℕ
all_teams n names teams =
    if length teams == n then codes "all teams together" else teams_text names [] (codes "and") (codes " together") teams

-- each two of some teams
abbrev pub two_teams : ℕ → List (List ℕ) → List ℕ → List ℕ
two_teams n names teams =
    if length teams == n then codes "each two teams"
    else if length teams == 2 then teams_text names [] (codes "and") [] teams
    else codes "each two of " ++ teams_text names [] (codes "and") [] teams

-- against some teams: nothing is said where it is all
abbrev pub against_teams : ℕ → List (List ℕ) → List ℕ → List ℕ
against_teams n names teams =
    if length teams == n then [] else codes " against " ++ teams_text names [] (codes "or") [] teams

-- ---- slots

-- runs of slots in a row, each by its first and its last slot, with a slot before them
abbrev pub with_slot : ℕ → List (ℕ × ℕ) → List (ℕ × ℕ)
with_slot s [] = (s, s) ∷ []
with_slot s (run ∷ runs) = if s + 1 == run.0 then (s, run.1) ∷ runs else (s, s) ∷ run ∷ runs

-- the runs of ascending slots
abbrev pub runs_of : List ℕ → List (ℕ × ℕ)
runs_of [] = []
runs_of (s ∷ slots) = with_slot s (runs_of slots)

-- a run in words: three slots or more are one item
abbrev pub run_items : ℕ × ℕ → List (List ℕ)
run_items run =
    if run.0 == run.1 then decimal run.0 ∷ []
    else if run.0 + 1 == run.1 then decimal run.0 ∷ decimal run.1 ∷ []
    else (decimal run.0 ++ (codes " to " ++ decimal run.1)) ∷ []

-- slots in a row: `0, 2 to 4 and 6`
abbrev pub slots_list : List ℕ → List ℕ
slots_list slots = listed (codes "and") (flat_map run_items (runs_of slots))

-- some slots that aren't the whole season
abbrev pub some_slots : List ℕ → List ℕ
some_slots [] = codes "no slot"
some_slots (s ∷ []) = codes "slot " ++ decimal s
some_slots (s ∷ t ∷ slots) = codes "slots " ++ slots_list (s ∷ t ∷ slots)

-- some slots together
abbrev pub all_slots : ℕ → List ℕ → List ℕ
all_slots n slots = if length slots == slot_count n then codes "the whole season" else some_slots slots

-- each of some slots
abbrev pub each_of_slots : List ℕ → List ℕ
each_of_slots (s ∷ t ∷ slots) = codes "each of the slots " ++ slots_list (s ∷ t ∷ slots)
each_of_slots slots = some_slots slots

abbrev pub each_slot : ℕ → List ℕ → List ℕ
each_slot n slots = if length slots == slot_count n then codes "each slot" else each_of_slots slots

-- so many slots in a row
abbrev pub windows_text : ℕ → ℕ → List ℕ
windows_text n intp =
    if nat_lt (slot_count n) intp
    then codes " in " ++ (decimal intp ++ codes " slots in a row, more than the season has")
    else if intp == 1 then codes " in each slot"
    else codes " in any " ++ (decimal intp ++ codes " slots in a row")
