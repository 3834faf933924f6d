-- What a place of the table, and what is counted beside it, tell of the counts.
use Rattle.std.proofs.Common.{◌≡◌, ◌≢◌, ◌⊎◌, ℕ, ◌+◌, ◌<◌, ◌≤◌, Bool, true, false, ◌&&◌, ◌||◌, ◌==◌, nat_lt}
use Rattle.std.proofs.Common.{List}
use Rattle.std.proofs.Common.{[], ◌∷◌, length, get_or, refl, arith, ap, ◌∙◌, sym, inl, inr, zero-add}
use Rattle.std.proofs.lemmas.Bool.{cases_lt}
use Rattle.std.proofs.lemmas.Bool.Decides.{nat_tests}
use Rattle.std.proofs.lemmas.List.Sums.{sum_by-le}
use Rattle.std.specs.List.{sum_by}
use Rattle.std.specs.Ordering.{nat_cmp}
use Rattle.league.specs.Capacity.{meetings_with}
use Rattle.league.specs.Counts.{Counts, slot_count, teams_of}
use Rattle.league.specs.Meetings.{games_of}
use Rattle.league.specs.Sets.{IsAscending}
use Rattle.league.specs.Venues.{away_games, home_games}
use Rattle.league.specs.declared.class.Side.TheVariants.{H, A}
use Rattle.league.proofs.CountLemmas.{sum_by-one_game}
use Rattle.league.proofs.RangeLemmas.{one_if}
use Rattle.league.proofs.SumLemmas.{sum_by-add, sum_by-same}
use Rattle.rule_core.proofs.ListedLemmas.{table_of}
use Rattle.rule_core.proofs.TeamPlaceLemmas.{at_home-all, is_away-all, once_in, sum_of_none}
use Rattle.rule_core.proofs.PlaceLemmas.{not_itself}
use Rattle.rule_core.proofs.TableLemmas.{away_games-ge, home_games-ge, kept-counts, kept-le}
use Rattle.rule_core.specs.Opponents.{hosts_any, is_away, is_home, place_at, visits_any}
use Rattle.rule_core.specs.Places.{hosts, visits}
use Rattle.rule_core.specs.Spare.{spare_counts}
use Rattle.rule_core.specs.Table.{Table, table_counts}
use Rattle.rule_core.specs.Tables.{AreKept, AreOpponents, kept_counts}
use Rattle.rule_core.specs.declared.counters.Counters.{Counters}
use Rattle.rule_core.specs.declared.place.Place.{Place}
use Rattle.rule_core.specs.declared.place.Place.TheVariants.{Free, Home, Away}

-- the counts that contracts see are those that are kept
pub seen : (n : ℕ) (ps : List Place) (xs : List ℕ) (t : Table) → AreOpponents n ps xs
    → table_of n (kept_counts n ps xs) ≡ t → table_counts t ≡ kept_counts n ps xs
seen n ps xs t table is = sym (ap (λ (u : Table). table_counts u) is) ∙ kept-counts n ps xs table

itself : (x : ℕ) → (x == x) ≡ true
itself x = grind (arith, nat_tests)

inside : (x k : ℕ) → x < k → one_if (true && nat_lt x k) ≡ 1
inside x k h = grind (arith, nat_tests)

one_passes : (b c : Bool) → (b || c) ≡ true → (b ≡ true) ⊎ (c ≡ true)
one_passes true c passes = inl refl
one_passes false c passes = inr passes

-- a team stands once among the teams
once_of : (g n : ℕ) → g < n → sum_by (λ j. one_if (g == j)) (teams_of n) ≡ 1
once_of g n lt =
    omega (
      arith,
      sum_by-same (λ j. one_if (g == j)) (λ j. 0 + one_if (g == j)) (λ j. sym (zero-add (one_if (g == j))))
          (teams_of n),
      sum_by-one_game (λ j. 0) (λ j. g == j) true g n (λ j. refl),
      sum_of_none (λ (j : ℕ). 0) (λ j. refl) (teams_of n),
      inside g n lt,
    )

-- a place is of one home game, of one away game, or of none
hosts_sum : (n : ℕ) (p : Place) → ((j : ℕ) → hosts p j ≡ true → j < n)
    → sum_by (λ j. one_if (hosts p j)) (teams_of n) ≡ one_if (is_home p)
hosts_sum n Free teams = sum_of_none (λ (j : ℕ). 0) (λ j. refl) (teams_of n)
hosts_sum n (Home guest) teams = once_of guest.0 n (teams guest.0 (itself guest.0))
hosts_sum n (Away host) teams = sum_of_none (λ (j : ℕ). 0) (λ j. refl) (teams_of n)

visits_sum : (n : ℕ) (p : Place) → ((j : ℕ) → visits p j ≡ true → j < n)
    → sum_by (λ j. one_if (visits p j)) (teams_of n) ≡ one_if (is_away p)
visits_sum n Free teams = sum_of_none (λ (j : ℕ). 0) (λ j. refl) (teams_of n)
visits_sum n (Home guest) teams = sum_of_none (λ (j : ℕ). 0) (λ j. refl) (teams_of n)
visits_sum n (Away host) teams = once_of host.0 n (teams host.0 (itself host.0))

module _ (n games : ℕ) (ps : List Place) (xs : List ℕ) (h a : Counters) (kept : AreKept n games ps xs h a)
    (i s : ℕ) where
  -- home games of the place, and spare ones
  home_split : home_games n (kept_counts n ps xs) i s ≡ one_if
      (is_home (place_at (slot_count n) ps i s)) + home_games n (spare_counts xs) i s
  home_split =
      let p : Place = place_at (slot_count n) ps i s in
      omega (
        arith,
        sum_by-add (λ j. one_if (hosts p j)) (λ j. spare_counts xs i j s) (teams_of n),
        hosts_sum n p (λ j is. (kept.table.mirrored.teams i j s is).1),
      )

  away_split : away_games n (kept_counts n ps xs) i s ≡ one_if
      (is_away (place_at (slot_count n) ps i s)) + away_games n (spare_counts xs) i s
  away_split =
      let at : ℕ → Place = λ j. place_at (slot_count n) ps j s in
      let turned : (j : ℕ) → one_if (hosts (at j) i) ≡ one_if (visits (at i) j) = λ j. ap one_if
      (kept.table.mirrored.same j i s) in
      omega (
        arith,
        sum_by-add (λ j. one_if (hosts (at j) i)) (λ j. spare_counts xs j i s) (teams_of n),
        sum_by-same (λ j. one_if (hosts (at j) i)) (λ j. one_if (visits (at i) j)) turned (teams_of n),
        visits_sum n (at i) (λ j is. (kept.table.mirrored.teams j i s (kept.table.mirrored.same j i s ∙ is)).0),
      )

  -- a team with as many home games as its place has no spare one
  no_spare_home : home_games n (kept_counts n ps xs) i s ≡ one_if (is_home (place_at (slot_count n) ps i s))
      → (j : ℕ) → spare_counts xs i j s ≡ 0
  no_spare_home settled j =
      let none : home_games n (spare_counts xs) i s ≡ 0 = omega (arith, settled, home_split) in
      elim (cases_lt j n) [
        | inl lt ↦ omega (arith, none, home_games-ge n (spare_counts xs) i j s lt)
        | inr ge ↦ kept.table.counted.within i j s (inr (inl ge))
      ]

  no_spare_away : away_games n (kept_counts n ps xs) i s ≡ one_if (is_away (place_at (slot_count n) ps i s))
      → (j : ℕ) → spare_counts xs j i s ≡ 0
  no_spare_away settled j =
      let none : away_games n (spare_counts xs) i s ≡ 0 = omega (arith, settled, away_split) in
      elim (cases_lt j n) [
        | inl lt ↦ omega (arith, none, away_games-ge n (spare_counts xs) j i s lt)
        | inr ge ↦ kept.table.counted.within j i s (inl ge)
      ]

  -- a team with as many home games as its place has no spare one, as contracts see the counts
  pub settled_home : (t : Table) → table_of n (kept_counts n ps xs) ≡ t
      → home_games t.n (table_counts t) i s ≡ one_if (is_home (place_at (slot_count n) ps i s)) → (j : ℕ)
      → spare_counts xs i j s ≡ 0
  settled_home t is settled =
      no_spare_home
      (sym (ap (λ (m : Counts). home_games n m i s) (seen n ps xs t kept.table is))
      ∙ ap (λ (k : ℕ). home_games k (table_counts t) i s) (ap (λ (u : Table). u.n) is) ∙ settled)

  pub settled_away : (t : Table) → table_of n (kept_counts n ps xs) ≡ t
      → away_games t.n (table_counts t) i s ≡ one_if (is_away (place_at (slot_count n) ps i s)) → (j : ℕ)
      → spare_counts xs j i s ≡ 0
  settled_away t is settled =
      no_spare_away
      (sym (ap (λ (m : Counts). away_games n m i s) (seen n ps xs t kept.table is))
      ∙ ap (λ (k : ℕ). away_games k (table_counts t) i s) (ap (λ (u : Table). u.n) is) ∙ settled)

  -- one that has another number of them has a game
  pub some_home : (t : Table) → table_of n (kept_counts n ps xs) ≡ t
      → home_games t.n (table_counts t) i s ≢ one_if (is_home (place_at (slot_count n) ps i s))
      → 0 < home_games t.n (table_counts t) i s
  some_home t is differ =
      omega (
        arith,
        differ,
        ap (λ (m : Counts). home_games n m i s) (seen n ps xs t kept.table is),
        ap (λ (k : ℕ). home_games k (table_counts t) i s) (ap (λ (u : Table). u.n) is),
        home_split,
      )

  pub some_away : (t : Table) → table_of n (kept_counts n ps xs) ≡ t
      → away_games t.n (table_counts t) i s ≢ one_if (is_away (place_at (slot_count n) ps i s))
      → 0 < away_games t.n (table_counts t) i s
  some_away t is differ =
      omega (
        arith,
        differ,
        ap (λ (m : Counts). away_games n m i s) (seen n ps xs t kept.table is),
        ap (λ (k : ℕ). away_games k (table_counts t) i s) (ap (λ (u : Table). u.n) is),
        away_split,
      )

-- the venue counts that contracts see
pub home_seen : (n : ℕ) (ps : List Place) (xs : List ℕ) (t : Table) → AreOpponents n ps xs
    → table_of n (kept_counts n ps xs) ≡ t → (i s : ℕ)
    → home_games n (kept_counts n ps xs) i s ≡ home_games t.n (table_counts t) i s
home_seen n ps xs t table is i s = sym (ap (λ (m : Counts). home_games n m i s) (seen n ps xs t table is)) ∙
    ap (λ (k : ℕ). home_games k (table_counts t) i s) (ap (λ (u : Table). u.n) is)

pub away_seen : (n : ℕ) (ps : List Place) (xs : List ℕ) (t : Table) → AreOpponents n ps xs
    → table_of n (kept_counts n ps xs) ≡ t → (i s : ℕ)
    → away_games n (kept_counts n ps xs) i s ≡ away_games t.n (table_counts t) i s
away_seen n ps xs t table is i s = sym (ap (λ (m : Counts). away_games n m i s) (seen n ps xs t table is)) ∙
    ap (λ (k : ℕ). away_games k (table_counts t) i s) (ap (λ (u : Table). u.n) is)

-- a count, by the place that was read and the spare games
module _ (n games : ℕ) (ps : List Place) (xs : List ℕ) (h a : Counters) (kept : AreKept n games ps xs h a)
    (t : Table) (is : table_of n (kept_counts n ps xs) ≡ t) (i s w : ℕ) (p : Place) (wide : w ≡ slot_count n)
    (read : p ≡ place_at w ps i s) where
  place_is : p ≡ place_at (slot_count n) ps i s
  place_is = read ∙ ap (λ (v : ℕ). place_at v ps i s) wide

  pub count_all : (j placed copies : ℕ) → placed ≡ one_if (hosts p j) → copies ≡ spare_counts xs i j s
      → placed + copies ≡ table_counts t i j s
  count_all j placed copies hosted listed =
      omega (
        arith,
        ap (λ (m : Counts). m i j s) (seen n ps xs t kept.table is),
        hosted,
        listed,
        ap (λ (q : Place). one_if (hosts q j)) place_is,
      )

  pub count_le : (j : ℕ) → table_counts t i j s ≤ 10000
  count_le j = omega
      (arith, ap (λ (m : Counts). m i j s) (seen n ps xs t kept.table is), kept-le n games ps xs h a kept i j s)

  pub away_count : (j : ℕ) → table_counts t j i s ≡ one_if (visits p j) + spare_counts xs j i s
  away_count j =
      omega (
        arith,
        ap (λ (m : Counts). m j i s) (seen n ps xs t kept.table is),
        ap one_if (kept.table.mirrored.same j i s),
        ap (λ (q : Place). one_if (visits q j)) place_is,
      )

  -- the games with another team, at home and away
  pub count_both : (j placed at_home away : ℕ) → placed ≡ one_if (hosts p j) + one_if (visits p j)
      → at_home ≡ spare_counts xs i j s → away ≡ spare_counts xs j i s
      → placed + at_home + away ≡ table_counts t i j s + table_counts t j i s
  count_both j placed at_home away met listed turned =
      omega (
        arith,
        met,
        listed,
        turned,
        count_all j (one_if (hosts p j)) (spare_counts xs i j s) refl refl,
        away_count j,
      )

  pub both_le : (j : ℕ) → table_counts t i j s + table_counts t j i s ≤ 20000
  both_le j =
      omega (
        arith,
        count_le j,
        ap (λ (m : Counts). m j i s) (seen n ps xs t kept.table is),
        kept-le n games ps xs h a kept j i s,
      )

  -- a team whose place tells all its home games
  pub no_more_home : (homes placed : ℕ) → homes ≡ home_games t.n (table_counts t) i s → placed ≡ one_if (is_home p)
      → homes ≡ placed → (j : ℕ) → spare_counts xs i j s ≡ 0
  no_more_home homes placed are is_placed same =
      settled_home n games ps xs h a kept i s t is
      (sym are ∙ same ∙ is_placed ∙ ap (λ (q : Place). one_if (is_home q)) place_is)

  pub no_more_away : (aways placed : ℕ) → aways ≡ away_games t.n (table_counts t) i s → placed ≡ one_if (is_away p)
      → aways ≡ placed → (j : ℕ) → spare_counts xs j i s ≡ 0
  no_more_away aways placed are is_placed same =
      settled_away n games ps xs h a kept i s t is
      (sym are ∙ same ∙ is_placed ∙ ap (λ (q : Place). one_if (is_away q)) place_is)

  -- a team whose place doesn't tell all its home games
  pub more_home : (homes placed : ℕ) → homes ≡ home_games t.n (table_counts t) i s → placed ≡ one_if (is_home p)
      → homes ≢ placed → 0 < home_games t.n (table_counts t) i s
  more_home homes placed are is_placed differ =
      some_home n games ps xs h a kept i s t is
      (λ same. differ (are ∙ same ∙ sym (is_placed ∙ ap (λ (q : Place). one_if (is_home q)) place_is)))

  pub more_away : (aways placed : ℕ) → aways ≡ away_games t.n (table_counts t) i s → placed ≡ one_if (is_away p)
      → aways ≢ placed → 0 < away_games t.n (table_counts t) i s
  more_away aways placed are is_placed differ =
      some_away n games ps xs h a kept i s t is
      (λ same. differ (are ∙ same ∙ sym (is_placed ∙ ap (λ (q : Place). one_if (is_away q)) place_is)))

  -- what the place tells of each other team
  pub home_told : ((j : ℕ) → spare_counts xs i j s ≡ 0) → (j : ℕ) → table_counts t i j s ≡ one_if (hosts p j)
  home_told none j = sym (count_all j (one_if (hosts p j)) 0 refl (sym (none j))) ∙ omega arith

  pub away_told : ((j : ℕ) → spare_counts xs j i s ≡ 0) → (j : ℕ) → table_counts t j i s ≡ one_if (visits p j)
  away_told none j = omega (arith, away_count j, none j)

  pub teams_told : (j : ℕ) → (hosts p j || visits p j) ≡ true → j < t.n
  teams_told j passes =
      let at : Place = place_at (slot_count n) ps i s in
      let same_n : n ≡ t.n = ap (λ (u : Table). u.n) is in
      elim (one_passes (hosts p j) (visits p j) passes) [
        | inl hosted ↦ omega (
          arith,
          same_n,
          (kept.table.mirrored.teams i j s (sym (ap (λ (q : Place). hosts q j) place_is) ∙ hosted)).1,
        )
        | inr visited ↦
            omega (
              arith,
              same_n,
              (kept.table.mirrored.teams j i s
                  (kept.table.mirrored.same j i s ∙ sym (ap (λ (q : Place). visits q j) place_is) ∙ visited)).0,
            )
      ]

-- no game is one of a team with itself
kept_not_itself : (n : ℕ) (ps : List Place) (xs : List ℕ) → AreOpponents n ps xs → (i s : ℕ)
    → kept_counts n ps xs i i s ≡ 0
kept_not_itself n ps xs table i s = omega (
  arith,
  ap one_if (not_itself n (place_at (slot_count n) ps) table.mirrored i s),
  table.counted.differ i s,
)

-- a place has a game against one of some others, or none
hosts_any_sum : (p : Place) (others : List ℕ) → IsAscending nat_cmp others
    → sum_by (λ j. one_if (hosts p j)) others ≡ one_if (hosts_any others p)
hosts_any_sum Free others ascending = sum_of_none (λ (j : ℕ). 0) (λ j. refl) others
hosts_any_sum (Home guest) others ascending = once_in guest.0 others ascending
hosts_any_sum (Away host) others ascending = sum_of_none (λ (j : ℕ). 0) (λ j. refl) others

visits_any_sum : (p : Place) (others : List ℕ) → IsAscending nat_cmp others
    → sum_by (λ j. one_if (visits p j)) others ≡ one_if (visits_any others p)
visits_any_sum Free others ascending = sum_of_none (λ (j : ℕ). 0) (λ j. refl) others
visits_any_sum (Home guest) others ascending = sum_of_none (λ (j : ℕ). 0) (λ j. refl) others
visits_any_sum (Away host) others ascending = once_in host.0 others ascending

-- the games of a team against some others, by its place and the spare games
module _ (n games : ℕ) (ps : List Place) (xs : List ℕ) (h a : Counters) (kept : AreKept n games ps xs h a)
    (t : Table) (is : table_of n (kept_counts n ps xs) ≡ t) (i s : ℕ) (others : List ℕ)
    (ascending : IsAscending nat_cmp others) where
  pub at_home-kept : games_of (table_counts t) (meetings_with H i others) (s ∷ []) ≡ one_if
      (hosts_any others (place_at (slot_count n) ps i s)) + sum_by (λ j. spare_counts xs i j s) others
  at_home-kept =
      let p : Place = place_at (slot_count n) ps i s in
      ap (λ (m : Counts). games_of m (meetings_with H i others) (s ∷ [])) (seen n ps xs t kept.table is)
      ∙ at_home-all (kept_counts n ps xs) i others s (kept_not_itself n ps xs kept.table i s)
      ∙ sum_by-add (λ j. one_if (hosts p j)) (λ j. spare_counts xs i j s) others
      ∙ ap (λ (k : ℕ). k + sum_by (λ j. spare_counts xs i j s) others) (hosts_any_sum p others ascending)

  pub away-kept : games_of (table_counts t) (meetings_with A i others) (s ∷ []) ≡ one_if
      (visits_any others (place_at (slot_count n) ps i s)) + sum_by (λ j. spare_counts xs j i s) others
  away-kept =
      let at : ℕ → Place = λ j. place_at (slot_count n) ps j s in
      ap (λ (m : Counts). games_of m (meetings_with A i others) (s ∷ [])) (seen n ps xs t kept.table is)
      ∙ is_away-all (kept_counts n ps xs) i others s (kept_not_itself n ps xs kept.table i s)
      ∙ sum_by-add (λ j. one_if (hosts (at j) i)) (λ j. spare_counts xs j i s) others
      ∙ ap (λ (k : ℕ). k + sum_by (λ j. spare_counts xs j i s) others)
      (sum_by-same (λ j. one_if (hosts (at j) i)) (λ j. one_if (visits (at i) j))
      (λ j. ap one_if (kept.table.mirrored.same j i s)) others ∙ visits_any_sum (at i) others ascending)

  -- the games of a team against some others in a slot are few
  pub at_home-le : length others ≤ 78 → games_of (table_counts t) (meetings_with H i others) (s ∷ []) ≤ 780000
  at_home-le few =
      omega (
        arith,
        ap (λ (m : Counts). games_of m (meetings_with H i others) (s ∷ [])) (seen n ps xs t kept.table is),
        at_home-all (kept_counts n ps xs) i others s (kept_not_itself n ps xs kept.table i s),
        sum_by-le (λ j. kept_counts n ps xs i j s) 10000 others
            (λ k d lt. kept-le n games ps xs h a kept i (get_or others k d) s),
      )

  pub away-le : length others ≤ 78 → games_of (table_counts t) (meetings_with A i others) (s ∷ []) ≤ 780000
  away-le few =
      omega (
        arith,
        ap (λ (m : Counts). games_of m (meetings_with A i others) (s ∷ [])) (seen n ps xs t kept.table is),
        is_away-all (kept_counts n ps xs) i others s (kept_not_itself n ps xs kept.table i s),
        sum_by-le (λ j. kept_counts n ps xs j i s) 10000 others
            (λ k d lt. kept-le n games ps xs h a kept (get_or others k d) i s),
      )

  -- by the place that was read, and the spare games
  module _ (w : ℕ) (p : Place) (wide : w ≡ slot_count n) (read : p ≡ place_at w ps i s) where
    pub at_home_all : (placed copies : ℕ) → placed ≡ one_if (hosts_any others p)
        → copies ≡ sum_by (λ j. spare_counts xs i j s) others
        → placed + copies ≡ games_of (table_counts t) (meetings_with H i others) (s ∷ [])
    at_home_all placed copies hosted listed =
        omega (
          arith,
          at_home-kept,
          hosted,
          listed,
          ap (λ (q : Place). one_if (hosts_any others q))
              (read ∙ ap (λ (v : ℕ). place_at v ps i s) wide),
        )

    pub at_home_settled : (placed : ℕ) → placed ≡ one_if (hosts_any others p)
        → ((j : ℕ) → spare_counts xs i j s ≡ 0)
        → placed ≡ games_of (table_counts t) (meetings_with H i others) (s ∷ [])
    at_home_settled placed hosted none =
        omega (arith, at_home_all placed 0 hosted (sym (sum_of_none (λ j. spare_counts xs i j s) none others)))

    pub away_all : (placed copies : ℕ) → placed ≡ one_if (visits_any others p)
        → copies ≡ sum_by (λ j. spare_counts xs j i s) others
        → placed + copies ≡ games_of (table_counts t) (meetings_with A i others) (s ∷ [])
    away_all placed copies visited listed =
        omega (
          arith,
          away-kept,
          visited,
          listed,
          ap (λ (q : Place). one_if (visits_any others q))
              (read ∙ ap (λ (v : ℕ). place_at v ps i s) wide),
        )

    pub away_settled : (placed : ℕ) → placed ≡ one_if (visits_any others p) → ((j : ℕ) → spare_counts xs j i s ≡ 0)
        → placed ≡ games_of (table_counts t) (meetings_with A i others) (s ∷ [])
    away_settled placed visited none =
        omega (arith, away_all placed 0 visited (sym (sum_of_none (λ j. spare_counts xs j i s) none others)))
