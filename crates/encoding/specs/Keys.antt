-- The rows of every class in one form: keys, each a list of literals of which from so many to so many are true. Those
-- who write rows, count their terms or soften them read a class's keys. A class bounds its subjects one by one, each at
-- some places of the season.
use Rattle.std.specs.Prelude.{ℕ, ◌+◌, ◌-◌, ◌*◌, ◌<◌, ◌≤◌, Bool, true, false, min as smaller, List, [], ◌∷◌, ◌++◌, length, map}
use Rattle.std.specs.List.{filter, flat_map, range_with_len}
use Rattle.league.specs.Capacity.{is_between, meetings_with}
use Rattle.league.specs.Counts.{slot_count}
use Rattle.league.specs.Meetings.{meetings_of, pairs_of}
use Rattle.league.specs.declared.class.Class.{Class}
use Rattle.league.specs.declared.class.Class.TheVariants.{Ca1, Ca2, Ca3, Ca4, Ga1, Br1, Br2, Fa2, Se1}
use Rattle.league.specs.declared.class.Side.TheVariants.{Both}
use Rattle.league.specs.declared.class.Span.{Span}
use Rattle.league.specs.declared.class.Span.TheVariants.{Global, Every}
use Rattle.rows.specs.Cardinality.{between}
use Rattle.rows.specs.Literals.{Literal}
use Rattle.rows.specs.Rows.{Row}
use Rattle.encoding.specs.Ascending.{AreMeetings, AreSlots, AreTeams}
use Rattle.encoding.specs.Encoding.{demands}
use Rattle.encoding.specs.Lists.{at_home_in, away_breaks_at, away_in, breaks_in, games_in, home_breaks_at}
use Rattle.encoding.specs.Lists.{meetings_in_order, slots_up_to, venues_in}
use Rattle.encoding.specs.Pairs.{IsPair}
use Rattle.encoding.specs.declared.keys.Counted.{Counted}
use Rattle.encoding.specs.declared.keys.Counted.TheVariants.{Venues, Against, Between, Games, Breaks, AllBreaks, Lead}
use Rattle.encoding.specs.declared.keys.Key.{Key}
use Rattle.encoding.specs.declared.subjects.Subject.{Subject}
use Rattle.encoding.specs.declared.subjects.Subject.TheVariants.{Whole, Team, Pair}

-- literals of which from low to high are true
pub record Bounded : Type 0 where
  pub low : ℕ
  pub high : ℕ
  pub literals : List Literal

-- the rows that say so, but for those that demand nothing
abbrev pub rows_of_key : Bounded → List Row
rows_of_key key = filter demands (between key.low key.high key.literals)

-- whom a class bounds one by one: all together, each of its teams, or each two of them
abbrev pub subjects_of : Class → List Subject
subjects_of (Ca1 teams min max side slots) = map Team teams
subjects_of (Ca2 teams1 teams2 min max side slots) = map Team teams1
subjects_of (Ca3 teams1 teams2 min max intp side) = map Team teams1
subjects_of (Ca4 teams1 teams2 min max side span slots) = Whole ∷ []
subjects_of (Ga1 meetings min max slots) = Whole ∷ []
subjects_of (Br1 teams intp side slots) = map Team teams
subjects_of (Br2 teams intp slots) = Whole ∷ []
subjects_of (Fa2 teams intp slots) = map (λ p. Pair p.0 p.1) (pairs_of teams)
subjects_of (Se1 teams min) = map (λ p. Pair p.0 p.1) (pairs_of teams)

-- how many slots a window of an SE1 has
abbrev pub separation : ℕ → ℕ → ℕ
separation n min = smaller (min + 1) (slot_count n)

-- the places at which a class bounds each of them: the first slots of windows, its slots one by one, or the first slot
-- for all
abbrev pub places_of : ℕ → Class → List ℕ
places_of n (Ca3 teams1 teams2 min max intp side) = range_with_len 0 (slot_count n + 1 - intp)
places_of n (Ca4 teams1 teams2 min max side Every slots) = slots
places_of n (Fa2 teams intp slots) = slots
places_of n (Se1 teams min) = range_with_len 0 (slot_count n + 1 - separation n min)
places_of n _ = 0 ∷ []

-- the slots of a CA4 at a place
abbrev pub slots_at : Span → List ℕ → ℕ → List ℕ
slots_at Global slots place = slots
slots_at Every slots place = place ∷ []

-- what a class bounds, and by how much, of a subject at a place
abbrev pub key_of : ℕ → Class → Subject → ℕ → Bounded
key_of n (Ca1 teams min max side slots) (Team i) place =
    record { low = min; high = max; literals = venues_in side n i slots }
key_of n (Ca2 teams1 teams2 min max side slots) (Team i) place =
    record { low = min; high = max; literals = games_in n (meetings_in_order side i teams2) slots }
key_of n (Ca3 teams1 teams2 min max intp side) (Team i) place = record {
  low = min;
  high = max;
  literals = games_in n (meetings_in_order side i teams2) (range_with_len place intp);
}
key_of n (Br1 teams intp side slots) (Team i) place =
    record { low = 0; high = intp; literals = breaks_in side n i slots }
key_of n (Ca4 teams1 teams2 min max side span slots) Whole place = record {
  low = min;
  high = max;
  literals = games_in n (filter (is_between side teams1 teams2) (meetings_of n)) (slots_at span slots place);
}
key_of n (Ga1 meetings min max slots) Whole place =
    record { low = min; high = max; literals = games_in n meetings slots }
key_of n (Br2 teams intp slots) Whole place = record {
  low = 0;
  high = intp;
  literals = flat_map (λ i. home_breaks_at n i slots) teams ++ flat_map (λ i. away_breaks_at n i slots) teams;
}
-- of the place + 1 slots so far, those in which i is away and those in which j is at home: half of them, give or take
-- intp
key_of n (Fa2 teams intp slots) (Pair i j) place = record {
  low = place + 1 - intp;
  high = place + 1 + intp;
  literals = away_in n i (slots_up_to place) ++ at_home_in n j (slots_up_to place);
}
key_of n (Se1 teams min) (Pair i j) place = record {
  low = 0;
  high = 1;
  literals = games_in n (meetings_with Both i (j ∷ [])) (range_with_len place (separation n min));
}
key_of n _ _ place = record { low = 0; high = 0; literals = [] }

-- the rows of a subject, and those of all subjects: they are the rows of the class
abbrev pub rows_of_subject : ℕ → Class → Subject → List Row
rows_of_subject n class subject = flat_map (λ place. rows_of_key (key_of n class subject place)) (places_of n class)

abbrev pub rows_by_subject : ℕ → Class → List Row
rows_by_subject n class = flat_map (rows_of_subject n class) (subjects_of class)

-- ---- as they are held

-- the literals that are counted
abbrev pub literals_of : ℕ → Counted → List Literal
literals_of n (Venues team side slots) = venues_in side n team slots.now
literals_of n (Against team opponents side slots) = games_in n (meetings_in_order side team opponents.now) slots.now
literals_of n (Between teams1 teams2 side slots) =
    games_in n (filter (is_between side teams1.now teams2.now) (meetings_of n)) slots.now
literals_of n (Games meetings slots) = games_in n meetings.now slots.now
literals_of n (Breaks team side slots) = breaks_in side n team slots.now
literals_of n (AllBreaks teams slots) =
    flat_map (λ i. home_breaks_at n i slots.now) teams.now ++ flat_map (λ i. away_breaks_at n i slots.now) teams.now
literals_of n (Lead first second slots) = away_in n first slots.now ++ at_home_in n second slots.now

abbrev pub held : ℕ → Key → Bounded
held n key = record { low = key.low; high = key.high; literals = literals_of n key.counted }

-- ---- which are there

-- whether a class bounds such subjects
abbrev pub suits : Class → Subject → Bool
suits (Ca1 teams min max side slots) (Team i) = true
suits (Ca2 teams1 teams2 min max side slots) (Team i) = true
suits (Ca3 teams1 teams2 min max intp side) (Team i) = true
suits (Br1 teams intp side slots) (Team i) = true
suits (Ca4 teams1 teams2 min max side span slots) Whole = true
suits (Ga1 meetings min max slots) Whole = true
suits (Br2 teams intp slots) Whole = true
suits (Fa2 teams intp slots) (Pair i j) = true
suits (Se1 teams min) (Pair i j) = true
suits _ _ = false

-- a subject's teams are teams of the league
abbrev pub IsWithin : ℕ → Subject → Type 0
IsWithin n Whole = 0 ≤ n
IsWithin n (Team i) = i < n
IsWithin n (Pair i j) = IsPair n (i, j)

-- how many literals a key of a class has at most: the games of a team or of all meetings in all slots, or two literals
-- for each slot
abbrev pub most_literals : Class → ℕ
most_literals (Ca4 teams1 teams2 min max side span slots) = 124800
most_literals (Ga1 meetings min max slots) = 124800
most_literals (Br2 teams intp slots) = 124800
most_literals (Fa2 teams intp slots) = 156
most_literals (Se1 teams min) = 156
most_literals _ = 6240

-- the same by what is counted: of games against others, by how many these are
abbrev pub most_counted : Counted → ℕ
most_counted (Against team opponents side slots) = 156 * length opponents.now
most_counted (Between teams1 teams2 side slots) = 124800
most_counted (Games meetings slots) = 124800
most_counted (AllBreaks teams slots) = 124800
most_counted _ = 156

-- how many slots from a place on have to be in the season
abbrev pub width : ℕ → Class → ℕ
width n (Ca3 teams1 teams2 min max intp side) = intp
width n (Se1 teams min) = separation n min
width n _ = 1

-- literals that can be listed: their teams, meetings and slots are the league's, in order
abbrev pub IsListable : ℕ → Counted → Type 0
IsListable n (Venues team side slots) = (team < n) × AreSlots n slots.now
IsListable n (Against team opponents side slots) = (team < n) × AreTeams n opponents.now × AreSlots n slots.now
IsListable n (Between teams1 teams2 side slots) = AreSlots n slots.now
IsListable n (Games meetings slots) = AreMeetings n meetings.now × AreSlots n slots.now
IsListable n (Breaks team side slots) = (team < n) × AreSlots n slots.now
IsListable n (AllBreaks teams slots) = AreTeams n teams.now × AreSlots n slots.now
IsListable n (Lead first second slots) = IsPair n (first, second) × AreSlots n slots.now
