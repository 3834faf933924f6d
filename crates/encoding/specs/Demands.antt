-- 8. The rows of each class of constraints, key by key in the order of its deviation vector (own encoding). All rows of
-- a key are satisfied exactly where its entry is 0.
use Rattle.std.specs.Prelude.{ℕ, ◌+◌, ◌-◌, min as smaller, List, [], ◌∷◌, ◌++◌, map}
use Rattle.std.specs.List.{filter, flat_map}
use Rattle.league.specs.Capacity.{is_between, meetings_with, windows_of}
use Rattle.league.specs.Counts.{slot_count}
use Rattle.league.specs.Deviation.{spans}
use Rattle.league.specs.Meetings.{meetings_of, pairs_of}
use Rattle.league.specs.declared.class.Class.{Class}
use Rattle.league.specs.declared.class.Class.TheVariants.{Ca1, Ca2, Ca3, Ca4, Ga1, Br1, Br2, Fa2, Se1}
use Rattle.league.specs.declared.class.Side.{Side}
use Rattle.league.specs.declared.class.Side.TheVariants.{Both}
use Rattle.rows.specs.Cardinality.{at_least, at_most, between}
use Rattle.rows.specs.Rows.{Row}
use Rattle.encoding.specs.Lists.{at_home_in, away_breaks_at, away_in, breaks_in, games_in, home_breaks_at}
use Rattle.encoding.specs.Lists.{meetings_in_order, slots_up_to, venues_in}

-- CA1, team i: min to max games on the side in the slots
abbrev pub ca1_rows : ℕ → ℕ → ℕ → Side → List ℕ → ℕ → List Row
ca1_rows n min max side slots i = between min max (venues_in side n i slots)

-- CA2, team i: min to max games on the side against teams2 in the slots
abbrev pub ca2_rows : ℕ → List ℕ → ℕ → ℕ → Side → List ℕ → ℕ → List Row
ca2_rows n teams2 min max side slots i = between min max (games_in n (meetings_in_order side i teams2) slots)

-- CA3, team i: the same in each window
abbrev pub ca3_rows : ℕ → List ℕ → ℕ → ℕ → ℕ → Side → ℕ → List Row
ca3_rows n teams2 min max intp side i =
    flat_map (λ window. ca2_rows n teams2 min max side window i) (windows_of n intp)

-- CA4: min to max games of teams1 with teams2 on the side in the slots, each game once
abbrev pub ca4_rows : ℕ → List ℕ → List ℕ → ℕ → ℕ → Side → List ℕ → List Row
ca4_rows n teams1 teams2 min max side slots =
    between min max (games_in n (filter (is_between side teams1 teams2) (meetings_of n)) slots)

-- GA1: min to max games of the meetings in the slots
abbrev pub ga1_rows : ℕ → List (ℕ × ℕ) → ℕ → ℕ → List ℕ → List Row
ga1_rows n meetings min max slots = between min max (games_in n meetings slots)

-- BR1, team i: at most intp breaks on the side at the slots
abbrev pub br1_rows : ℕ → ℕ → Side → List ℕ → ℕ → List Row
br1_rows n intp side slots i = at_most intp (breaks_in side n i slots) ∷ []

-- BR2: at most intp breaks of the teams at the slots
abbrev pub br2_rows : ℕ → List ℕ → ℕ → List ℕ → List Row
br2_rows n teams intp slots =
    at_most intp
    (flat_map (λ i. home_breaks_at n i slots) teams ++ flat_map (λ i. away_breaks_at n i slots) teams) ∷ []

-- FA2, teams i and j at slot s: of the s + 1 slots so far, those in which i is away and those in which j is at home are
-- together at least s + 1 - intp, so that i has at most intp home games more than j; and the other way round
abbrev pub fa2_rows_at : ℕ → ℕ → ℕ × ℕ → ℕ → List Row
fa2_rows_at n intp p s =
    at_least (s + 1 - intp) (away_in n p.0 (slots_up_to s) ++ at_home_in n p.1 (slots_up_to s))
    ∷ at_least (s + 1 - intp) (at_home_in n p.0 (slots_up_to s) ++ away_in n p.1 (slots_up_to s))
    ∷ []

-- FA2, teams i and j: at each of the slots
abbrev pub fa2_rows : ℕ → ℕ → List ℕ → ℕ × ℕ → List Row
fa2_rows n intp slots p = flat_map (fa2_rows_at n intp p) slots

-- the windows of min + 1 slots, or the season where it has no more
abbrev pub separation_windows : ℕ → ℕ → List (List ℕ)
separation_windows n min = windows_of n (smaller (min + 1) (slot_count n))

-- SE1, teams i and j: at most one mutual game in each of these windows
abbrev pub se1_rows : ℕ → ℕ → ℕ × ℕ → List Row
se1_rows n min p =
    map (λ window. at_most 1 (games_in n (meetings_with Both p.0 (p.1 ∷ [])) window)) (separation_windows n min)

-- the rows of each key of a class
abbrev pub rows_by_key : ℕ → Class → List (List Row)
rows_by_key n (Ca1 teams min max side slots) = map (ca1_rows n min max side slots) teams
rows_by_key n (Ca2 teams1 teams2 min max side slots) = map (ca2_rows n teams2 min max side slots) teams1
rows_by_key n (Ca3 teams1 teams2 min max intp side) = map (ca3_rows n teams2 min max intp side) teams1
rows_by_key n (Ca4 teams1 teams2 min max side span slots) =
    map (ca4_rows n teams1 teams2 min max side) (spans span slots)
rows_by_key n (Ga1 meetings min max slots) = ga1_rows n meetings min max slots ∷ []
rows_by_key n (Br1 teams intp side slots) = map (br1_rows n intp side slots) teams
rows_by_key n (Br2 teams intp slots) = br2_rows n teams intp slots ∷ []
rows_by_key n (Fa2 teams intp slots) = map (fa2_rows n intp slots) (pairs_of teams)
rows_by_key n (Se1 teams min) = map (se1_rows n min) (pairs_of teams)
