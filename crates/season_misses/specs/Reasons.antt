-- Why an entry of a constraint isn't 0: by how much it is missed, and by which games of a schedule.
use Rattle.std.specs.Prelude.{ℕ, ◌+◌, ◌-◌, ◌==◌, nat_lt, if◌then◌else◌, List, [], ◌∷◌, ◌++◌, length, slice_index}
use Rattle.std.specs.Prelude.{Option, Some, None, slice_index_or}
use Rattle.std.specs.List.{filter, find, flat_map, range_with_len}
use Rattle.league.specs.Bounds.{difference, excess, largest, outside}
use Rattle.league.specs.Breaks.{is_away_break, is_home_break}
use Rattle.league.specs.Counts.{Counts, counts_of, slot_count}
use Rattle.league.specs.Deviation.{spans}
use Rattle.league.specs.Fairness.{home_played}
use Rattle.league.specs.Meetings.{pairs_of}
use Rattle.league.specs.Separation.{slots_between}
use Rattle.league.specs.declared.class.Class.{Class}
use Rattle.league.specs.declared.class.Class.TheVariants.{Ca1, Ca2, Ca3, Ca4, Ga1, Br1, Br2, Fa2, Se1}
use Rattle.league.specs.declared.class.Side.{Side}
use Rattle.league.specs.declared.class.Side.TheVariants.{H, A, Both}
use Rattle.league.specs.declared.game.Game.{Game}
use Rattle.rule_core.specs.Ready.{entry_count}
use Rattle.season_misses.specs.Counting.{counts_in_ca1, counts_in_ca2, counts_in_ca3, counts_in_ca4, counts_in_ga1}
use Rattle.season_misses.specs.Counting.{counts_in_break, counts_in_fa2, counts_in_se1}
use Rattle.season_misses.specs.declared.reason.Break.{Break}
use Rattle.season_misses.specs.declared.reason.Cause.{Cause}
use Rattle.season_misses.specs.declared.reason.Cause.TheVariants.{Games, Window, Breaks, Lead, Gap}
use Rattle.season_misses.specs.declared.reason.Reason.{Reason}

-- a reason at a key, where something is missed at all
abbrev pub where_missed : ℕ → ℕ → Cause → List Reason
where_missed key amount cause =
    if nat_lt 0 amount then record { key = key; amount = amount; cause = cause } ∷ [] else []

-- CA1, CA2, CA4, GA1: games whose number is outside of min to max
abbrev pub by_games : ℕ → ℕ → ℕ → List Game → List Reason
by_games key min max games = where_missed key (outside min max (length games)) (Games games)

-- CA3: the same of the games in the window from a slot on
abbrev pub by_window : ℕ → ℕ → ℕ → ℕ → List Game → List Reason
by_window key min max first games =
    where_missed key (outside min max (length games)) (Window (record { 0 = first }) games)

-- a break of team i on a side at slot s, with its games
abbrev pub break_of : List Game → Side → ℕ → ℕ → Break
break_of games side i s = record {
  team = record { 0 = i };
  side = side;
  slot = record { 0 = s };
  games = filter (counts_in_break side i s) games;
}

-- the home break of team i at slot s, if it has one, and its away break
abbrev pub home_break_at : ℕ → List Game → ℕ → ℕ → List Break
home_break_at n games i s = if is_home_break n (counts_of games) i s then break_of games H i s ∷ [] else []

abbrev pub away_break_at : ℕ → List Game → ℕ → ℕ → List Break
away_break_at n games i s = if is_away_break n (counts_of games) i s then break_of games A i s ∷ [] else []

-- the breaks of team i on a side at slot s
abbrev pub breaks_at_slot : ℕ → List Game → Side → ℕ → ℕ → List Break
breaks_at_slot n games H i s = home_break_at n games i s
breaks_at_slot n games A i s = away_break_at n games i s
breaks_at_slot n games Both i s = home_break_at n games i s ++ away_break_at n games i s

-- the breaks of team i on a side at some slots
abbrev pub breaks_of : ℕ → List Game → Side → List ℕ → ℕ → List Break
breaks_of n games side slots i = flat_map (λ s. breaks_at_slot n games side i s) slots

-- BR1, BR2: more breaks than intp
abbrev pub by_breaks : ℕ → ℕ → List Break → List Reason
by_breaks key intp breaks = where_missed key (excess (length breaks) intp) (Breaks breaks)

-- how many more home games one of two teams has played than the other after slot s
abbrev pub apart : ℕ → Counts → ℕ × ℕ → ℕ → ℕ
apart n m p s = difference (home_played n m p.0 s) (home_played n m p.1 s)

-- the first of these slots after which two teams are furthest apart
abbrev pub furthest : ℕ → Counts → List ℕ → ℕ × ℕ → Option ℕ
furthest n m slots p = find (λ s. apart n m p s == largest (apart n m p) slots) slots

-- FA2: two teams further apart than intp after a slot, with the home games of both up to this slot
abbrev pub by_lead : ℕ → ℕ → ℕ → List Game → ℕ × ℕ → Option ℕ → List Reason
by_lead key n intp games p None = []
by_lead key n intp games p (Some s) =
    where_missed key (excess (apart n (counts_of games) p s) intp)
    (Lead (record { 0 = s }) (filter (counts_in_fa2 p.0 s) games) (filter (counts_in_fa2 p.1 s) games))

-- each game with the next one
abbrev pub neighbours : List Game → List (Game × Game)
neighbours [] = []
neighbours (g ∷ []) = []
neighbours (g ∷ h ∷ games) = (g, h) ∷ neighbours (h ∷ games)

-- SE1: two games with fewer than min slots between them
abbrev pub by_gap : ℕ → ℕ → Game × Game → List Reason
by_gap key min two = where_missed key (excess min (slots_between two.0.slot.0 two.1.slot.0)) (Gap two.0 two.1)

-- the reasons at a key of a constraint, in a league of n teams, of games in order
abbrev pub reasons_at : ℕ → List Game → Class → ℕ → List Reason
reasons_at n games (Ca1 teams min max side slots) key =
    by_games key min max (filter (counts_in_ca1 side slots (slice_index teams key)) games)
reasons_at n games (Ca2 teams1 teams2 min max side slots) key =
    by_games key min max (filter (counts_in_ca2 teams2 side slots (slice_index teams1 key)) games)
reasons_at n games (Ca3 teams1 teams2 min max intp side) key =
    flat_map
    (λ first. by_window key min max first
    (filter (counts_in_ca3 teams2 intp side (slice_index teams1 key) first) games))
    (range_with_len 0 (slot_count n + 1 - intp))
reasons_at n games (Ca4 teams1 teams2 min max side span slots) key =
    by_games key min max (filter (counts_in_ca4 teams1 teams2 side (slice_index_or (spans span slots) key [])) games)
reasons_at n games (Ga1 meetings min max slots) key =
    by_games key min max (filter (counts_in_ga1 meetings slots) games)
reasons_at n games (Br1 teams intp side slots) key =
    by_breaks key intp (breaks_of n games side slots (slice_index teams key))
reasons_at n games (Br2 teams intp slots) key = by_breaks key intp (flat_map (breaks_of n games Both slots) teams)
reasons_at n games (Fa2 teams intp slots) key =
    let p = slice_index_or (pairs_of teams) key (0, 0) in
    by_lead key n intp games p (furthest n (counts_of games) slots p)
reasons_at n games (Se1 teams min) key =
    let p = slice_index_or (pairs_of teams) key (0, 0) in
    flat_map (by_gap key min) (neighbours (filter (counts_in_se1 p) games))

-- the reasons of a constraint, key by key
abbrev pub reasons_of : ℕ → List Game → Class → List Reason
reasons_of n games class = flat_map (reasons_at n games class) (range_with_len 0 (entry_count class))
