-- Lists of literals in order of their variables: games, venues and breaks.
use Rattle.std.proofs.Common.{◌≢◌, ℕ, ◌+◌, ◌-◌, ◌*◌, ◌<◌, ◌≤◌, List, [], ◌∷◌, ◌++◌, get_or, map}
use Rattle.std.proofs.Common.{arith, inl, inr}
use Rattle.std.proofs.Math.Nat.{mul-le-mul_right}
use Rattle.std.proofs.lemmas.Bool.{cases_lt, le-ltb, lt-ltb}
use Rattle.std.specs.List.{AllPairs, filter, flat_map}
use Rattle.league.specs.Capacity.{is_between}
use Rattle.league.specs.Counts.{slot_count}
use Rattle.league.specs.Meetings.{meetings_of}
use Rattle.league.specs.declared.class.Side.{Side}
use Rattle.league.specs.declared.class.Side.TheVariants.{H, A, Both}
use Rattle.rows.specs.Literals.{Literal, no, yes}
use Rattle.encoding.specs.Ascending.{AreMeetings, AreSlots, AreTeams, AscendsBy, place_of}
use Rattle.encoding.specs.Lists.{after_first, at_home_in, away_breaks_at, away_in, breaks_in, games_in}
use Rattle.encoding.specs.Keys.{IsListable, literals_of}
use Rattle.encoding.specs.Lists.{home_breaks_at, meetings_in_order, venues_in}
use Rattle.encoding.specs.Variables.{ab_var, h_count, h_var, hb_count, hb_var, x_count, x_var}
use Rattle.encoding.specs.declared.keys.Counted.{Counted}
use Rattle.encoding.specs.declared.keys.Counted.TheVariants.{Venues, Against, Between, Games, Breaks, AllBreaks, Lead}
use Rattle.encoding.proofs.AscendLemmas.{AllPairs-ascending, AscendsBy-append, AscendsBy-blocks}
use Rattle.encoding.proofs.AscendLemmas.{AscendsBy-flat_map, AscendsBy-high, AscendsBy-low}
use Rattle.encoding.proofs.AscendLemmas.{AscendsBy-map, AscendsBy-same, AscendsBy-shift}
use Rattle.encoding.proofs.MeetingOrder.{AreMeetings-all, AreMeetings-filter, AreMeetings-in_order}

abbrev var_of : Literal → ℕ
var_of l = l.var

-- literals that ascend have different variables
pub differ : (low : ℕ) (literals : List Literal) (high : ℕ) → AscendsBy (λ l. l.var) low literals high
    → AllPairs (λ l m. l.var ≢ m.var) literals
differ low literals high ascends = AllPairs-ascending var_of low literals high ascends

-- ---- games

games_of_meeting : (n : ℕ) (slots : List ℕ) → AreSlots n slots → (p : ℕ × ℕ)
    → AscendsBy (λ l. l.var) (1 + place_of n p * slot_count n) (map (λ s. yes (x_var n p.0 p.1 s)) slots)
    (1 + (place_of n p + 1) * slot_count n)
games_of_meeting n slots are p =
    let base : ℕ = 1 + place_of n p * slot_count n in
    let game : ℕ → Literal = λ s. yes (x_var n p.0 p.1 s) in
    AscendsBy-map var_of game base slots (1 + (place_of n p + 1) * slot_count n)
    (AscendsBy-high (λ s. base + s) base slots (base + slot_count n) (1 + (place_of n p + 1) * slot_count n)
    (omega arith)
    (AscendsBy-low (λ s. base + s) base (base + 0) slots (base + slot_count n) (omega arith)
    (AscendsBy-shift (λ s. s) base 0 slots (slot_count n) are)))

-- each is one of the x
pub games_ascend : (n : ℕ) (meetings : List (ℕ × ℕ)) (slots : List ℕ) → AreMeetings n meetings → AreSlots n slots
    → AscendsBy (λ l. l.var) 1 (games_in n meetings slots) (1 + x_count n)
games_ascend n meetings slots are_meetings are_slots =
    let games : ℕ × ℕ → List Literal = λ p. map (λ s. yes (x_var n p.0 p.1 s)) slots in
    AscendsBy-low var_of 1 (1 + 0 * slot_count n) (games_in n meetings slots) (1 + x_count n) (omega arith)
    (AscendsBy-flat_map (place_of n) var_of games 1 (slot_count n) 0 meetings (n * (n - 1))
    (λ k d within. games_of_meeting n slots are_slots (get_or meetings k d)) are_meetings.ascend)

pub games_differ : (n : ℕ) (meetings : List (ℕ × ℕ)) (slots : List ℕ) → AreMeetings n meetings → AreSlots n slots
    → AllPairs (λ l m. l.var ≢ m.var) (games_in n meetings slots)
games_differ n meetings slots are_meetings are_slots = differ 1 (games_in n meetings slots) (1 + x_count n)
    (games_ascend n meetings slots are_meetings are_slots)

-- ---- venues

-- where h(i,0) stands
abbrev pub home_base : ℕ → ℕ → ℕ
home_base n i = 1 + x_count n + i * slot_count n

pub home_ascend : (n i : ℕ) (slots : List ℕ) → AreSlots n slots
    → AscendsBy (λ l. l.var) (home_base n i) (at_home_in n i slots) (home_base n (i + 1))
home_ascend n i slots are =
    let base : ℕ = home_base n i in
    let home : ℕ → Literal = λ s. yes (h_var n i s) in
    AscendsBy-map var_of home base slots (home_base n (i + 1))
    (AscendsBy-high (λ s. base + s) base slots (base + slot_count n) (home_base n (i + 1)) (omega arith)
    (AscendsBy-low (λ s. base + s) base (base + 0) slots (base + slot_count n) (omega arith)
    (AscendsBy-shift (λ s. s) base 0 slots (slot_count n) are)))

pub away_ascend : (n i : ℕ) (slots : List ℕ) → AreSlots n slots
    → AscendsBy (λ l. l.var) (home_base n i) (away_in n i slots) (home_base n (i + 1))
away_ascend n i slots are =
    let base : ℕ = home_base n i in
    let away : ℕ → Literal = λ s. no (h_var n i s) in
    AscendsBy-map var_of away base slots (home_base n (i + 1))
    (AscendsBy-high (λ s. base + s) base slots (base + slot_count n) (home_base n (i + 1)) (omega arith)
    (AscendsBy-low (λ s. base + s) base (base + 0) slots (base + slot_count n) (omega arith)
    (AscendsBy-shift (λ s. s) base 0 slots (slot_count n) are)))

pub venues_differ : (n : ℕ) (side : Side) (i : ℕ) (slots : List ℕ) → AreSlots n slots
    → AllPairs (λ l m. l.var ≢ m.var) (venues_in side n i slots)
venues_differ n H i slots are = differ (home_base n i) (at_home_in n i slots) (home_base n (i + 1))
    (home_ascend n i slots are)
venues_differ n A i slots are = differ (home_base n i) (away_in n i slots) (home_base n (i + 1))
    (away_ascend n i slots are)
venues_differ n Both i slots are = λ i j d before within. absurd (omega arith)

-- the teams at home in a slot
pub teams_ascend : (n s : ℕ) (teams : List ℕ) → s < slot_count n → AreTeams n teams
    → AscendsBy (λ l. l.var) (home_base n 0) (map (λ i. yes (h_var n i s)) teams) (home_base n n)
teams_ascend n s teams within are =
    let home : ℕ → Literal = λ i. yes (h_var n i s) in
    AscendsBy-map var_of home (home_base n 0) teams (home_base n n)
    (AscendsBy-blocks (λ i. i) (λ i. s) (1 + x_count n) (slot_count n) 0 teams n (λ k d inside. within) are)

pub teams_differ : (n s : ℕ) (teams : List ℕ) → s < slot_count n → AreTeams n teams
    → AllPairs (λ l m. l.var ≢ m.var) (map (λ i. yes (h_var n i s)) teams)
teams_differ n s teams within are = differ (home_base n 0) (map (λ i. yes (h_var n i s)) teams) (home_base n n)
    (teams_ascend n s teams within are)

-- where an earlier team's h stand before a later one's
home_base-le : (n i j : ℕ) → i < j → home_base n (i + 1) ≤ home_base n j
home_base-le n i j before =
    let next : i + 1 ≤ j = omega (arith, before) in
    omega (arith, mul-le-mul_right (slot_count n) next)

-- team i away and team j at home, and the other way round
pub lead_ascend : (n i j : ℕ) (slots : List ℕ) → i < j → AreSlots n slots
    → AscendsBy (λ l. l.var) (home_base n i) (away_in n i slots ++ at_home_in n j slots) (home_base n (j + 1))
lead_ascend n i j slots before are =
    AscendsBy-append var_of (home_base n i) (away_in n i slots) (home_base n (i + 1)) (at_home_in n j slots)
    (home_base n (j + 1)) (away_ascend n i slots are)
    (AscendsBy-low var_of (home_base n (i + 1)) (home_base n j) (at_home_in n j slots) (home_base n (j + 1))
    (home_base-le n i j before) (home_ascend n j slots are))

pub lead_back_ascend : (n i j : ℕ) (slots : List ℕ) → i < j → AreSlots n slots
    → AscendsBy (λ l. l.var) (home_base n i) (at_home_in n i slots ++ away_in n j slots) (home_base n (j + 1))
lead_back_ascend n i j slots before are =
    AscendsBy-append var_of (home_base n i) (at_home_in n i slots) (home_base n (i + 1)) (away_in n j slots)
    (home_base n (j + 1)) (home_ascend n i slots are)
    (AscendsBy-low var_of (home_base n (i + 1)) (home_base n j) (away_in n j slots) (home_base n (j + 1))
    (home_base-le n i j before) (away_ascend n j slots are))

pub lead_differ : (n i j : ℕ) (slots : List ℕ) → i < j → AreSlots n slots
    → AllPairs (λ l m. l.var ≢ m.var) (away_in n i slots ++ at_home_in n j slots)
lead_differ n i j slots before are = differ (home_base n i) (away_in n i slots ++ at_home_in n j slots)
    (home_base n (j + 1)) (lead_ascend n i j slots before are)

-- ---- breaks

-- slots after the first, less 1
earlier_ascend : (low : ℕ) (slots : List ℕ) (high : ℕ) → AscendsBy (λ s. s) low slots high
    → AscendsBy (λ s. s - 1) (low - 1) (after_first slots) (high - 1)
earlier_ascend low [] high ascends = omega (arith, ascends)
earlier_ascend low (s ∷ slots) high ascends =
    let rest : AscendsBy (λ s. s - 1) (s + 1 - 1) (after_first slots) (high - 1) = earlier_ascend
    (s + 1) slots high ascends.1 in
    elim (cases_lt 0 s) [
      | inl later ↦ rw (lt-ltb 0 s later) (
        omega (arith, ascends.0),
        AscendsBy-low (λ s. s - 1) (s - 1 + 1) (s + 1 - 1) (after_first slots) (high - 1)
            (omega (arith, later)) rest,
      )
      | inr first ↦ rw (le-ltb 0 s first)
          (AscendsBy-low (λ s. s - 1) (low - 1) (s + 1 - 1) (after_first slots) (high - 1) (omega (arith, ascends.0))
          rest)
    ]

-- where hb(i,1) and ab(i,1) stand
abbrev pub home_break_base : ℕ → ℕ → ℕ
home_break_base n i = 1 + x_count n + h_count n + i * (slot_count n - 1)

abbrev pub away_break_base : ℕ → ℕ → ℕ
away_break_base n i = home_break_base n i + hb_count n

pub home_breaks_ascend : (n i : ℕ) (slots : List ℕ) → AreSlots n slots
    → AscendsBy (λ l. l.var) (home_break_base n i) (home_breaks_at n i slots) (home_break_base n (i + 1))
home_breaks_ascend n i slots are =
    let base : ℕ = home_break_base n i in
    let break : ℕ → Literal = λ s. yes (hb_var n i s) in
    AscendsBy-map var_of break base (after_first slots) (home_break_base n (i + 1))
    (AscendsBy-high (λ s. base + (s - 1)) base (after_first slots) (base + (slot_count n - 1))
    (home_break_base n (i + 1)) (omega arith)
    (AscendsBy-low (λ s. base + (s - 1)) base (base + (0 - 1)) (after_first slots) (base + (slot_count n - 1))
    (omega arith)
    (AscendsBy-shift (λ s. s - 1) base (0 - 1) (after_first slots) (slot_count n - 1)
    (earlier_ascend 0 slots (slot_count n) are))))

pub away_breaks_ascend : (n i : ℕ) (slots : List ℕ) → AreSlots n slots
    → AscendsBy (λ l. l.var) (away_break_base n i) (away_breaks_at n i slots) (away_break_base n (i + 1))
away_breaks_ascend n i slots are =
    let base : ℕ = away_break_base n i in
    let break : ℕ → Literal = λ s. yes (ab_var n i s) in
    AscendsBy-map var_of break base (after_first slots) (away_break_base n (i + 1))
    (AscendsBy-same (λ s. base + (s - 1)) (λ s. ab_var n i s) (λ s. omega arith) base (after_first slots)
    (away_break_base n (i + 1))
    (AscendsBy-high (λ s. base + (s - 1)) base (after_first slots) (base + (slot_count n - 1))
    (away_break_base n (i + 1)) (omega arith)
    (AscendsBy-low (λ s. base + (s - 1)) base (base + (0 - 1)) (after_first slots) (base + (slot_count n - 1))
    (omega arith)
    (AscendsBy-shift (λ s. s - 1) base (0 - 1) (after_first slots) (slot_count n - 1)
    (earlier_ascend 0 slots (slot_count n) are)))))

-- the literals of a team's breaks ascend
pub breaks_ascend : (n : ℕ) (side : Side) (i : ℕ) (slots : List ℕ) → i < n → AreSlots n slots
    → AscendsBy (λ l. l.var) (home_break_base n 0) (breaks_in side n i slots) (away_break_base n n)
breaks_ascend n H i slots within are =
    let next : i + 1 ≤ n = omega (arith, within) in
    AscendsBy-high var_of (home_break_base n 0) (home_breaks_at n i slots) (home_break_base n (i + 1))
    (away_break_base n n) (omega (arith, mul-le-mul_right (slot_count n - 1) next))
    (AscendsBy-low var_of (home_break_base n 0) (home_break_base n i) (home_breaks_at n i slots)
    (home_break_base n (i + 1)) (omega arith) (home_breaks_ascend n i slots are))
breaks_ascend n A i slots within are =
    let next : i + 1 ≤ n = omega (arith, within) in
    AscendsBy-high var_of (home_break_base n 0) (away_breaks_at n i slots) (away_break_base n (i + 1))
    (away_break_base n n) (omega (arith, mul-le-mul_right (slot_count n - 1) next))
    (AscendsBy-low var_of (home_break_base n 0) (away_break_base n i) (away_breaks_at n i slots)
    (away_break_base n (i + 1)) (omega arith) (away_breaks_ascend n i slots are))
breaks_ascend n Both i slots within are =
    let next : i + 1 ≤ n = omega (arith, within) in
    AscendsBy-append var_of (home_break_base n 0) (home_breaks_at n i slots) (home_break_base n (i + 1))
    (away_breaks_at n i slots) (away_break_base n n)
    (AscendsBy-low var_of (home_break_base n 0) (home_break_base n i) (home_breaks_at n i slots)
    (home_break_base n (i + 1)) (omega arith) (home_breaks_ascend n i slots are))
    (AscendsBy-high var_of (home_break_base n (i + 1)) (away_breaks_at n i slots) (away_break_base n (i + 1))
    (away_break_base n n) (omega (arith, mul-le-mul_right (slot_count n - 1) next))
    (AscendsBy-low var_of (home_break_base n (i + 1)) (away_break_base n i) (away_breaks_at n i slots)
    (away_break_base n (i + 1)) (omega (arith, mul-le-mul_right (slot_count n - 1) next))
    (away_breaks_ascend n i slots are)))

-- of several teams: all home breaks, then all away breaks
pub all_breaks_ascend : (n : ℕ) (teams slots : List ℕ) → AreTeams n teams → AreSlots n slots
    → AscendsBy (λ l. l.var) (home_break_base n 0)
    (flat_map (λ i. home_breaks_at n i slots) teams ++ flat_map (λ i. away_breaks_at n i slots) teams)
    (away_break_base n n)
all_breaks_ascend n teams slots are_teams are_slots =
    let home : ℕ → List Literal = λ i. home_breaks_at n i slots in
    let away : ℕ → List Literal = λ i. away_breaks_at n i slots in
    let before : ℕ = 1 + x_count n + h_count n in
    let base : ℕ = before + hb_count n in
    let middle : ℕ = home_break_base n n in
    AscendsBy-append var_of (home_break_base n 0) (flat_map home teams) middle (flat_map away teams)
    (away_break_base n n)
    (AscendsBy-flat_map (λ i. i) var_of home before (slot_count n - 1) 0 teams n
    (λ k d within. home_breaks_ascend n (get_or teams k d) slots are_slots) are_teams)
    (AscendsBy-low var_of middle (base + 0 * (slot_count n - 1)) (flat_map away teams) (away_break_base n n)
    (omega arith)
    (AscendsBy-high var_of (base + 0 * (slot_count n - 1)) (flat_map away teams) (base + n * (slot_count n - 1))
    (away_break_base n n) (omega arith)
    (AscendsBy-flat_map (λ i. i) var_of away base (slot_count n - 1) 0 teams n
    (λ k d within.
    let i : ℕ = get_or teams k d in
    AscendsBy-high var_of (base + i * (slot_count n - 1)) (away i) (away_break_base n (i + 1))
    (base + (i + 1) * (slot_count n - 1)) (omega arith)
    (AscendsBy-low var_of (base + i * (slot_count n - 1)) (away_break_base n i) (away i) (away_break_base n (i + 1))
    (omega arith) (away_breaks_ascend n i slots are_slots)))
    are_teams)))

pub breaks_differ : (n : ℕ) (side : Side) (i : ℕ) (slots : List ℕ) → i < n → AreSlots n slots
    → AllPairs (λ l m. l.var ≢ m.var) (breaks_in side n i slots)
breaks_differ n side i slots within are = differ (home_break_base n 0) (breaks_in side n i slots)
    (away_break_base n n) (breaks_ascend n side i slots within are)

pub all_breaks_differ : (n : ℕ) (teams slots : List ℕ) → AreTeams n teams → AreSlots n slots
    → AllPairs (λ l m. l.var ≢ m.var)
    (flat_map (λ i. home_breaks_at n i slots) teams ++ flat_map (λ i. away_breaks_at n i slots) teams)
all_breaks_differ n teams slots are_teams are_slots =
    differ (home_break_base n 0)
    (flat_map (λ i. home_breaks_at n i slots) teams ++ flat_map (λ i. away_breaks_at n i slots) teams)
    (away_break_base n n) (all_breaks_ascend n teams slots are_teams are_slots)

-- ---- what a key counts

pub literals_differ : (n : ℕ) (counted : Counted) → IsListable n counted
    → AllPairs (λ l m. l.var ≢ m.var) (literals_of n counted)
literals_differ n (Venues team side slots) fit = venues_differ n side team slots.now fit.1
literals_differ n (Against team opponents side slots) fit =
    games_differ n (meetings_in_order side team opponents.now) slots.now
    (AreMeetings-in_order n side team opponents.now fit.0 fit.1) fit.2
literals_differ n (Between teams1 teams2 side slots) fit =
    games_differ n (filter (is_between side teams1.now teams2.now) (meetings_of n)) slots.now
    (AreMeetings-filter n (is_between side teams1.now teams2.now) (meetings_of n) (AreMeetings-all n)) fit
literals_differ n (Games meetings slots) fit = games_differ n meetings.now slots.now fit.0 fit.1
literals_differ n (Breaks team side slots) fit = breaks_differ n side team slots.now fit.0 fit.1
literals_differ n (AllBreaks teams slots) fit = all_breaks_differ n teams.now slots.now fit.0 fit.1
literals_differ n (Lead first second slots) fit = lead_differ n first second slots.now fit.0.order fit.1
