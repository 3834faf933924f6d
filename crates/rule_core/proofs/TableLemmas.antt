-- The counts of a table of places with its spare games, and what is kept beside it, with one game more or less.
use Rattle.std.proofs.Common.{◌≡◌, ℕ, ◌+◌, ◌*◌, ◌-◌, ◌<◌, ◌≤◌, zero, suc, Bool, true, false, ◌&&◌, ◌==◌}
use Rattle.std.proofs.Common.{nat_lt, List, [], ◌∷◌, length, get_or, replicate, refl, arith, ap, ◌∙◌, sym, inl, inr}
use Rattle.std.proofs.Common.{mul_comm, zero-add}
use Rattle.std.proofs.lemmas.Bool.{cond_both, false≢true}
use Rattle.std.proofs.lemmas.List.FromFn.{get_or-range_with_len, length-range_with_len}
use Rattle.std.proofs.lemmas.List.{length-replicate}
use Rattle.std.proofs.lemmas.List.Sums.{get_or-le-sum_by, sum-map, sum_by-cons, sum_by-le}
use Rattle.std.proofs.lemmas.Nat.{mul-add-lt, mul-le}
use Rattle.std.specs.List.{range_with_len, sum}
use Rattle.league.specs.Counts.{Counts, counts_of, one_more, slot_count, teams_of}
use Rattle.league.specs.Instance.{IsGame, IsTeamCount}
use Rattle.league.specs.Venues.{away_games, home_games}
use Rattle.league.specs.declared.game.Game.{Game}
use Rattle.league.proofs.CountLemmas.{away_games-none, away_games-one_more, home_games-none, home_games-one_more}
use Rattle.league.proofs.RangeLemmas.{one_if}
use Rattle.league.proofs.SumLemmas.{sum_by-same}
use Rattle.league.proofs.TableLemmas.{number-replicate}
use Rattle.league.specs.Grid.{number}
use Rattle.rule_core.proofs.ListedLemmas.{IsWithin, counts-listed, same_counts, sum-one_more, table_of}
use Rattle.rule_core.proofs.TeamPlaceLemmas.{sum_of_none}
use Rattle.rule_core.proofs.PlaceLemmas.{place_at-outside}
use Rattle.rule_core.specs.Opponents.{place_at}
use Rattle.rule_core.specs.Places.{hosts, visits}
use Rattle.rule_core.proofs.SpareLemmas.{AreSpare-none, no_counts}
use Rattle.rule_core.specs.Table.{Table, table_counts}
use Rattle.rule_core.specs.Tables.{AreKept, AreOpponents, HasRows, IsOneMore, kept_counts, listed}
use Rattle.rule_core.specs.declared.counters.Counters.{Counters}
use Rattle.rule_core.specs.declared.place.Place.{Place}
use Rattle.rule_core.specs.declared.place.Place.TheVariants.{Free}

-- a test that never passes counts nothing
fails : (b : Bool) → (b ≡ true → ⊥) → one_if b ≡ 0
fails true h = absurd (h refl)
fails false h = refl

-- what is kept is of the league
pub kept-within : (n : ℕ) (places : List Place) (spare : List ℕ) → AreOpponents n places spare
    → IsWithin n (kept_counts n places spare)
kept-within n places spare table =
    let at : ℕ → ℕ → Place = place_at (slot_count n) places in
    record {
      home = λ i j s past. omega (
        arith,
        fails (hosts (at i s) j) (λ is. absurd (omega (arith, (table.mirrored.teams i j s is).0))),
        table.counted.within i j s (inl past),
      );
      away = λ i j s past. omega (
        arith,
        fails (hosts (at i s) j) (λ is. absurd (omega (arith, (table.mirrored.teams i j s is).1))),
        table.counted.within i j s (inr (inl past)),
      );
      slot = λ i j s past. omega (
        arith,
        ap (λ (p : Place). one_if (hosts p j)) (place_at-outside (slot_count n) places i s past),
        table.counted.within i j s (inr (inr past)),
      );
    }

-- the counts of the table that contracts see
pub kept-counts : (n : ℕ) (places : List Place) (spare : List ℕ) → AreOpponents n places spare
    → table_counts (table_of n (kept_counts n places spare)) ≡ kept_counts n places spare
kept-counts n places spare table = counts-listed n (kept_counts n places spare) (kept-within n places spare table)

-- the home games then
home_more : (n : ℕ) (m more : Counts) (g : Game) → IsGame n g → ((i j s : ℕ) → more i j s ≡ one_more m g i j s)
    → (i s : ℕ) → home_games n more i s ≡ home_games n m i s + one_if ((g.home.0 == i) && (g.slot.0 == s))
home_more n m more g fits same i s =
    sum_by-same (λ j. more i j s) (λ j. one_more m g i j s) (λ j. same i j s) (teams_of n) ∙ home_games-one_more n m
    g i s fits

-- the away games with one game more
away_more : (n : ℕ) (m more : Counts) (g : Game) → IsGame n g → ((i j s : ℕ) → more i j s ≡ one_more m g i j s)
    → (i s : ℕ) → away_games n more i s ≡ away_games n m i s + one_if ((g.away.0 == i) && (g.slot.0 == s))
away_more n m more g fits same i s =
    sum_by-same (λ j. more j i s) (λ j. one_more m g j i s) (λ j. same j i s) (teams_of n) ∙ away_games-one_more n m
    g i s fits

-- the sum of the table with one game more
pub sum_more : (n : ℕ) (m more : Counts) (g : Game) → IsGame n g → ((i j s : ℕ) → more i j s ≡ one_more m g i j s)
    → sum (listed n more) ≡ sum (listed n m) + 1
sum_more n m more g fits same = ap (λ (k : Counts). sum (listed n k)) (same_counts more (one_more m g) same) ∙
    sum-one_more n m g fits

-- rows that have one more somewhere are as many and as long
rows_after : (n rows row column : ℕ) (before after : Counters) → HasRows n rows before
    → IsOneMore row column before after → HasRows n rows after
rows_after n rows row column before after has one = record
    { wide = one.as_wide ∙ has.wide; long = one.as_long ∙ has.long }

rows_before : (n rows row column : ℕ) (before after : Counters) → HasRows n rows after
    → IsOneMore row column before after → HasRows n rows before
rows_before n rows row column before after has one = record
    { wide = sym one.as_wide ∙ has.wide; long = sym one.as_long ∙ has.long }

-- the two tables beside, with one game more
pub record AreOneMore (g : Game) (homes aways more_homes more_aways : Counters) : Type 0 where
  pub by_home : IsOneMore g.home.0 g.slot.0 homes more_homes
  pub by_away : IsOneMore g.away.0 g.slot.0 aways more_aways

-- all is kept with one game more
pub AreKept-more : (n games : ℕ) (g : Game) (ps qs : List Place) (xs ys : List ℕ) (h a h1 a1 : Counters)
    → IsGame n g → games < 10000 → AreOneMore g h a h1 a1 → AreOpponents n qs ys
    → ((i j s : ℕ) → kept_counts n qs ys i j s ≡ one_more (kept_counts n ps xs) g i j s) → AreKept n games ps xs h a
    → AreKept n (games + 1) qs ys h1 a1
AreKept-more n games g ps qs xs ys h a h1 a1 fits room one table same kept =
    let m : Counts = kept_counts n ps xs in
    let more : Counts = kept_counts n qs ys in
    record {
      teams = kept.teams;
      table = table;
      home_rows = rows_after n n g.home.0 g.slot.0 h h1 kept.home_rows one.by_home;
      away_rows = rows_after n n g.away.0 g.slot.0 a a1 kept.away_rows one.by_away;
      total = omega (arith, kept.total, sum_more n m more g fits same);
      few = omega arith;
      home = λ i s. omega (arith, one.by_home.each i s, kept.home i s, home_more n m more g fits same i s);
      away = λ i s. omega (arith, one.by_away.each i s, kept.away i s, away_more n m more g fits same i s);
    }

-- all is kept with one game less
pub AreKept-less : (n games : ℕ) (g : Game) (ps qs : List Place) (xs ys : List ℕ) (h a h1 a1 : Counters)
    → IsGame n g → AreOneMore g h a h1 a1 → AreOpponents n ps xs
    → ((i j s : ℕ) → kept_counts n qs ys i j s ≡ one_more (kept_counts n ps xs) g i j s)
    → AreKept n games qs ys h1 a1 → AreKept n (games - 1) ps xs h a
AreKept-less n games g ps qs xs ys h a h1 a1 fits one table same kept =
    let m : Counts = kept_counts n ps xs in
    let more : Counts = kept_counts n qs ys in
    record {
      teams = kept.teams;
      table = table;
      home_rows = rows_before n n g.home.0 g.slot.0 h h1 kept.home_rows one.by_home;
      away_rows = rows_before n n g.away.0 g.slot.0 a a1 kept.away_rows one.by_away;
      total = omega (arith, kept.total, sum_more n m more g fits same);
      few = omega (arith, kept.few);
      home = λ i s. omega (arith, one.by_home.each i s, kept.home i s, home_more n m more g fits same i s);
      away = λ i s. omega (arith, one.by_away.each i s, kept.away i s, away_more n m more g fits same i s);
    }

-- a place that is free reads free, and so does all of a new table
free_at : (size k : ℕ) → get_or (replicate size Free) k Free ≡ Free
free_at zero k = refl
free_at (suc size) zero = refl
free_at (suc size) (suc k) = free_at size k

new_place : (slots size i s : ℕ) → place_at slots (replicate size Free) i s ≡ Free
new_place slots size i s = cond_both (nat_lt s slots) (get_or (replicate size Free) (i * slots + s) Free) Free
    (λ (p : Place). p ≡ Free) (λ e. free_at size (i * slots + s)) (λ e. refl)

-- new tables
pub AreOpponents-none : (n : ℕ) (places : List Place) (spare : List ℕ)
    → places ≡ replicate (n * slot_count n) Free → spare ≡ [] → AreOpponents n places spare
AreOpponents-none n places spare free none =
    let at : (i s : ℕ) → place_at (slot_count n) places i s ≡ Free = λ i s.
    ap (λ (ps : List Place). place_at (slot_count n) ps i s) free ∙ new_place (slot_count n) (n * slot_count n)
    i s in
    record {
      size = ap length free ∙ length-replicate {A = Place} (n * slot_count n) Free;
      mirrored = record {
        same = λ i j s. ap (λ (p : Place). hosts p j) (at i s) ∙ sym (ap (λ (p : Place). visits p i) (at j s));
        teams = λ i j s is. absurd (false≢true (sym (ap (λ (p : Place). hosts p j) (at i s)) ∙ is));
      };
      counted = AreSpare-none n spare none;
    }

-- new tables count nothing
pub kept-none : (n : ℕ) (places : List Place) (spare : List ℕ) → places ≡ replicate (n * slot_count n) Free
    → spare ≡ [] → kept_counts n places spare ≡ counts_of []
kept-none n places spare free none =
    same_counts (kept_counts n places spare) (counts_of [])
    (λ i j s.
    let at : place_at (slot_count n) places i s ≡ Free = ap (λ (ps : List Place). place_at (slot_count n) ps i s)
    free ∙ new_place (slot_count n) (n * slot_count n) i s in
    omega (arith, ap (λ (p : Place). one_if (hosts p j)) at, no_counts spare none i j s))

-- the counts of no games add up to nothing
sum-none : (n : ℕ) → sum (listed n (counts_of [])) ≡ 0
sum-none n = sum-map (λ p. 0) (range_with_len 0 (n * n * slot_count n)) ∙ sum_of_none (λ p. 0) (λ p. refl)
    (range_with_len 0 (n * n * slot_count n))

pub AreKept-none : (n : ℕ) (places : List Place) (spare : List ℕ) (h a : Counters) → IsTeamCount n
    → places ≡ replicate (n * slot_count n) Free → spare ≡ [] → h.columns ≡ slot_count n
    → h.numbers.items ≡ replicate (n * slot_count n) 0 → a.columns ≡ slot_count n
    → a.numbers.items ≡ replicate (n * slot_count n) 0 → AreKept n 0 places spare h a
AreKept-none n places spare h a teams free none h_wide h_items a_wide a_items =
    let empty : kept_counts n places spare ≡ counts_of [] = kept-none n places spare free none in
    record {
      teams = teams;
      table = AreOpponents-none n places spare free none;
      home_rows = record
          { wide = h_wide; long = ap length h_items ∙ length-replicate {A = ℕ} (n * slot_count n) 0 };
      away_rows = record
          { wide = a_wide; long = ap length a_items ∙ length-replicate {A = ℕ} (n * slot_count n) 0 };
      total = omega (arith, ap (λ (m : Counts). sum (listed n m)) empty, sum-none n);
      few = omega arith;
      home = λ i s. omega (
        arith,
        ap (λ (xs : List ℕ). number h.columns xs i s) h_items,
        number-replicate h.columns
            (n * slot_count n) i s,
        ap (λ (m : Counts). home_games n m i s) empty,
        home_games-none n i s,
      );
      away = λ i s. omega (
        arith,
        ap (λ (xs : List ℕ). number a.columns xs i s) a_items,
        number-replicate a.columns
            (n * slot_count n) i s,
        ap (λ (m : Counts). away_games n m i s) empty,
        away_games-none n i s,
      );
    }

-- each number of a list is at most their sum
get_or-le-sum : (xs : List ℕ) (place : ℕ) → get_or xs place 0 ≤ sum xs
get_or-le-sum [] place = omega arith
get_or-le-sum (x ∷ xs) zero = omega (arith, sum_by-cons (λ y. y) x xs)
get_or-le-sum (x ∷ xs) (suc place) = omega (arith, sum_by-cons (λ y. y) x xs, get_or-le-sum xs place)

-- each number in rows is at most their sum
number-le-sum : (columns : ℕ) (xs : List ℕ) (row column : ℕ) → number columns xs row column ≤ sum xs
number-le-sum columns xs row column =
    cond_both (nat_lt column columns) (get_or xs (row * columns + column) 0) 0 (λ x. x ≤ sum xs)
    (λ e. get_or-le-sum xs (row * columns + column)) (λ e. omega arith)

-- a count is at most the number of games
counts-le : (t : Table) (i j s : ℕ) → table_counts t i j s ≤ sum t.list
counts-le t i j s =
    cond_both (nat_lt j t.n) (number (slot_count t.n) t.list (i * t.n + j) s) 0 (λ x. x ≤ sum t.list)
    (λ e. number-le-sum (slot_count t.n) t.list (i * t.n + j) s) (λ e. omega arith)

pub kept-le : (n games : ℕ) (ps : List Place) (xs : List ℕ) (h a : Counters) → AreKept n games ps xs h a
    → (i j s : ℕ) → kept_counts n ps xs i j s ≤ 10000
kept-le n games ps xs h a kept i j s =
    omega (
      arith,
      ap (λ (m : Counts). m i j s) (kept-counts n ps xs kept.table),
      counts-le
          (table_of n (kept_counts n ps xs)) i j s,
      kept.total,
      kept.few,
    )

-- a team has at most n times as many at home in a slot, and away
pub kept-home-le : (n games : ℕ) (ps : List Place) (xs : List ℕ) (h a : Counters) → AreKept n games ps xs h a
    → (i s : ℕ) → number h.columns h.numbers.items i s ≤ 400000
kept-home-le n games ps xs h a kept i s =
    omega (
      arith,
      kept.home i s,
      sum_by-le (λ j. kept_counts n ps xs i j s) 10000 (teams_of n)
          (λ k d lt. kept-le n games ps xs h a kept i (get_or (teams_of n) k d) s),
      ap (λ (k : ℕ). k * 10000) (length-range_with_len 0 n),
      mul-le n 10000 40 10000 kept.teams.at_most (omega arith),
    )

pub kept-away-le : (n games : ℕ) (ps : List Place) (xs : List ℕ) (h a : Counters) → AreKept n games ps xs h a
    → (i s : ℕ) → number a.columns a.numbers.items i s ≤ 400000
kept-away-le n games ps xs h a kept i s =
    omega (
      arith,
      kept.away i s,
      sum_by-le (λ j. kept_counts n ps xs j i s) 10000 (teams_of n)
          (λ k d lt. kept-le n games ps xs h a kept (get_or (teams_of n) k d) i s),
      ap (λ (k : ℕ). k * 10000) (length-range_with_len 0 n),
      mul-le n 10000 40 10000 kept.teams.at_most (omega arith),
    )

-- a game that is counted is one of its home team and of its away team
pub home_games-ge : (n : ℕ) (m : Counts) (i j s : ℕ) → j < n → m i j s ≤ home_games n m i s
home_games-ge n m i j s h =
    omega (
      arith,
      get_or-le-sum_by (λ k. m i k s) (teams_of n) j 0 (omega (arith, length-range_with_len 0 n)),
      ap (λ (k : ℕ). m i k s) (get_or-range_with_len 0 n j 0 h ∙ zero-add j),
    )

pub away_games-ge : (n : ℕ) (m : Counts) (i j s : ℕ) → i < n → m i j s ≤ away_games n m j s
away_games-ge n m i j s h =
    omega (
      arith,
      get_or-le-sum_by (λ k. m k j s) (teams_of n) i 0 (omega (arith, length-range_with_len 0 n)),
      ap (λ (k : ℕ). m k j s) (get_or-range_with_len 0 n i 0 h ∙ zero-add i),
    )

-- a row and column that there are have a place
pub place_in_rows : (n row column columns size : ℕ) → columns ≡ slot_count n → size ≡ n * slot_count n → row < n
    → column < slot_count n → row * columns + column < size
place_in_rows n row column columns size wide long in_row in_column =
    omega (
      arith,
      ap (λ (w : ℕ). row * w + column) wide,
      long,
      mul-add-lt row (slot_count n) column
          n in_row in_column,
      mul_comm n (slot_count n),
    )
