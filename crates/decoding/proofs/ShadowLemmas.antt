-- What the games of a schedule mark is what its shadow has true.
use Rattle.std.proofs.Common.{◌≡◌, ◌≢◌, ℕ, ◌+◌, ◌-◌, ◌<◌, ◌≤◌, Bool, true, false, ◌&&◌, ◌==◌}
use Rattle.std.proofs.Common.{nat_lt, List, if◌then◌else◌}
use Rattle.std.proofs.Common.{refl, arith, ap, ◌∙◌, sym}
use Rattle.std.proofs.lemmas.Bool.{and_from, and_parts, eq-eqb, eqb-true, ltb-true, ne_eqb}
use Rattle.std.proofs.lemmas.Bool.Decides.{nat_tests}
use Rattle.std.specs.List.{All, count_by, list_any, sum_by}
use Rattle.league.specs.Breaks.{is_away_break, is_home_break}
use Rattle.league.specs.Counts.{counts_of, is_game, slot_count, teams_of}
use Rattle.league.specs.Instance.{IsGame}
use Rattle.league.specs.Venues.{away_games, home_games}
use Rattle.league.specs.declared.game.Game.{Game}
use Rattle.league.proofs.RangeLemmas.{one_if}
use Rattle.league.proofs.OneTermLemmas.{sum_by-swap}
use Rattle.encoding.specs.Variables.{ab_var, h_count, h_var, hb_count, hb_var, x_count, x_var}
use Rattle.encoding.proofs.PlaceLemmas.{ab_var-place, b_place, b_place-below, h_place, h_place-below, h_var-place}
use Rattle.encoding.proofs.PlaceLemmas.{hb_var-place, same_break, same_game, same_venue}
use Rattle.encoding.proofs.PlaceLemmas.{x_place, x_place-below, x_var-place}
use Rattle.decoding.specs.Marks.{marks_away, marks_away_break, marks_game, marks_home, marks_home_break}
use Rattle.decoding.proofs.DecodedCounts.{pick}
use Rattle.decoding.proofs.MarkLemmas.{list_any-agree, list_any-both, list_any-counted, list_any-never, same_tests}
use Rattle.decoding.proofs.MarkLemmas.{sum_by-agree_all}

module _ (n : ℕ) where
  -- the variable of a game is that of no other
  game_marked : (g : Game) (i j s : ℕ) → IsGame n g → i < n → j < n → i ≢ j → s < slot_count n →
      marks_game n (x_var n i j s) g ≡ is_game i j s g
  game_marked g i j s fits home away differ slot =
      same_tests (marks_game n (x_var n i j s) g) (is_game i j s g)
      (λ marks.
      let places : x_place n g.home.0 g.away.0 g.slot.0 ≡ x_place n i j s =
      omega (arith, eqb-true _ _ marks, x_var-place n g.home.0 g.away.0 g.slot.0, x_var-place n i j s) in
      let same = same_game n g.home.0 g.away.0 g.slot.0 i j s fits.home fits.away fits.differ fits.slot home away
      differ slot places in
      and_from _ _ (and_from _ _ (eq-eqb g.home.0 i same.0) (eq-eqb g.away.0 j same.1)) (eq-eqb g.slot.0 s same.2))
      (λ is.
      let all = and_parts ((g.home.0 == i) && (g.away.0 == j)) (g.slot.0 == s) is in
      let teams = and_parts (g.home.0 == i) (g.away.0 == j) all.0 in
      eq-eqb _ _
      (ap (λ (k : ℕ). x_var n k g.away.0 g.slot.0) (eqb-true g.home.0 i teams.0)
      ∙ ap (λ (k : ℕ). x_var n i k g.slot.0) (eqb-true g.away.0 j teams.1)
      ∙ ap (λ (k : ℕ). x_var n i j k) (eqb-true g.slot.0 s all.1)))

  venue_marked : (a t i s : ℕ) → t < slot_count n → s < slot_count n →
      (h_var n a t == h_var n i s) ≡ ((a == i) && (t == s))
  venue_marked a t i s slot slot' =
      same_tests (h_var n a t == h_var n i s) ((a == i) && (t == s))
      (λ marks.
      let places : h_place n a t ≡ h_place n i s =
      omega (arith, eqb-true _ _ marks, h_var-place n a t, h_var-place n i s) in
      let same = same_venue n a t i s slot slot' places in
      and_from _ _ (eq-eqb a i same.0) (eq-eqb t s same.1))
      (λ is.
      let both = and_parts (a == i) (t == s) is in
      eq-eqb _ _ (ap (λ (k : ℕ). h_var n k t) (eqb-true a i both.0) ∙ ap (λ (k : ℕ). h_var n i k)
      (eqb-true t s both.1)))

  break_marked : (var : ℕ → ℕ → ℕ) (first a t i s : ℕ) → ((a t : ℕ) → var a t ≡ first + b_place n a t) → 0 < t →
      t < slot_count n → 0 < s → s < slot_count n → (var a t == var i s) ≡ ((a == i) && (t == s))
  break_marked var first a t i s placed later slot later' slot' =
      same_tests (var a t == var i s) ((a == i) && (t == s))
      (λ marks.
      let places : b_place n a t ≡ b_place n i s = omega (arith, eqb-true _ _ marks, placed a t, placed i s) in
      let same = same_break n a t i s later slot later' slot' places in
      and_from _ _ (eq-eqb a i same.0) (eq-eqb t s same.1))
      (λ is.
      let both = and_parts (a == i) (t == s) is in
      eq-eqb _ _ (ap (λ (k : ℕ). var k t) (eqb-true a i both.0) ∙ ap (λ (k : ℕ). var i k) (eqb-true t s both.1)))

  home_of_game : (home i away t s : ℕ) → away < n →
      (if nat_lt away n then one_if ((home == i) && (away == away) && (t == s)) else 0) ≡ one_if
      ((home == i) && (t == s))
  home_of_game home i away t s below = grind (arith, nat_tests)

  away_of_game : (home i away t s : ℕ) → home < n →
      (if nat_lt home n then one_if ((home == home) && (away == i) && (t == s)) else 0) ≡ one_if
      ((away == i) && (t == s))
  away_of_game home i away t s below = grind (arith, nat_tests)

  other_opponent : (home i away j t s : ℕ) → j ≢ away → one_if ((home == i) && (away == j) && (t == s)) ≡ 0
  other_opponent home i away j t s differ = grind (arith, nat_tests)

  other_host : (home i away j t s : ℕ) → j ≢ home → one_if ((home == j) && (away == i) && (t == s)) ≡ 0
  other_host home i away j t s differ = grind (arith, nat_tests)

  module _ (games : List Game) (fit : All (IsGame n) games) where
    -- a team's home games and away games in a slot, counted game by game
    home_counted : (i s : ℕ) → home_games n (counts_of games) i s ≡ count_by
        (λ g. (g.home.0 == i) && (g.slot.0 == s)) games
    home_counted i s =
        sum_by-swap (λ j g. one_if (is_game i j s g)) (teams_of n) games
        ∙ sum_by-agree_all (IsGame n) (λ g. sum_by (λ j. one_if (is_game i j s g)) (teams_of n))
        (λ g. one_if ((g.home.0 == i) && (g.slot.0 == s)))
        (λ g fits.
        pick (λ j. one_if (is_game i j s g)) g.away.0 n
        (λ j differ. other_opponent g.home.0 i g.away.0 j g.slot.0 s differ)
        ∙ home_of_game g.home.0 i g.away.0 g.slot.0 s fits.away) games fit

    away_counted : (i s : ℕ) → away_games n (counts_of games) i s ≡ count_by
        (λ g. (g.away.0 == i) && (g.slot.0 == s)) games
    away_counted i s =
        sum_by-swap (λ j g. one_if (is_game j i s g)) (teams_of n) games
        ∙ sum_by-agree_all (IsGame n) (λ g. sum_by (λ j. one_if (is_game j i s g)) (teams_of n))
        (λ g. one_if ((g.away.0 == i) && (g.slot.0 == s)))
        (λ g fits.
        pick (λ j. one_if (is_game j i s g)) g.home.0 n
        (λ j differ. other_host g.home.0 i g.away.0 j g.slot.0 s differ)
        ∙ away_of_game g.home.0 i g.away.0 g.slot.0 s fits.home) games fit

    -- a game is marked where it is in the schedule
    pub games_marked : (i j s : ℕ) → i < n → j < n → i ≢ j → s < slot_count n →
        list_any (marks_game n (x_var n i j s)) games ≡ nat_lt 0 (counts_of games i j s)
    games_marked i j s home away differ slot =
        list_any-agree (IsGame n) (marks_game n (x_var n i j s)) (is_game i j s)
        (λ g fits. game_marked g i j s fits home away differ slot) games fit
        ∙ list_any-counted (is_game i j s) games

    -- a team where it is at home, and where it is away
    homes_played : (i s : ℕ) → list_any (λ g. (g.home.0 == i) && (g.slot.0 == s)) games ≡ nat_lt 0
        (home_games n (counts_of games) i s)
    homes_played i s =
        list_any-counted (λ g. (g.home.0 == i) && (g.slot.0 == s)) games ∙ ap (λ (k : ℕ). nat_lt 0 k)
        (sym (home_counted i s))

    aways_played : (i s : ℕ) → list_any (λ g. (g.away.0 == i) && (g.slot.0 == s)) games ≡ nat_lt 0
        (away_games n (counts_of games) i s)
    aways_played i s =
        list_any-counted (λ g. (g.away.0 == i) && (g.slot.0 == s)) games ∙ ap (λ (k : ℕ). nat_lt 0 k)
        (sym (away_counted i s))

    pub homes_marked : (i s : ℕ) → s < slot_count n →
        list_any (marks_home n (h_var n i s)) games ≡ nat_lt 0 (home_games n (counts_of games) i s)
    homes_marked i s slot =
        list_any-agree (IsGame n) (marks_home n (h_var n i s)) (λ g. (g.home.0 == i) && (g.slot.0 == s))
        (λ g fits. venue_marked g.home.0 g.slot.0 i s fits.slot slot) games fit
        ∙ homes_played i s

    pub aways_marked : (i s : ℕ) → s < slot_count n →
        list_any (marks_away n (h_var n i s)) games ≡ nat_lt 0 (away_games n (counts_of games) i s)
    aways_marked i s slot =
        list_any-agree (IsGame n) (marks_away n (h_var n i s)) (λ g. (g.away.0 == i) && (g.slot.0 == s))
        (λ g fits. venue_marked g.away.0 g.slot.0 i s fits.slot slot) games fit
        ∙ aways_played i s

    break_parts : (table : ℕ → Bool) (var : ℕ → ℕ → ℕ) (first a t i s : ℕ) →
        ((a t : ℕ) → var a t ≡ first + b_place n a t) → t < slot_count n → 0 < s → s < slot_count n →
        (nat_lt 0 t && (var a t == var i s) && table (h_var n a (t - 1)))
        ≡ (((a == i) && (t == s)) && table (h_var n i (s - 1)))
    break_parts table var first a t i s placed slot later slot' =
        same_tests (nat_lt 0 t && (var a t == var i s) && table (h_var n a (t - 1)))
        (((a == i) && (t == s)) && table (h_var n i (s - 1)))
        (λ marks.
        let outer = and_parts (nat_lt 0 t && (var a t == var i s)) (table (h_var n a (t - 1))) marks in
        let inner = and_parts (nat_lt 0 t) (var a t == var i s) outer.0 in
        let is = sym (break_marked var first a t i s placed (ltb-true 0 t inner.0) slot later slot') ∙ inner.1 in
        and_from _ _ is (sym (before is) ∙ outer.1))
        (λ is.
        let both = and_parts ((a == i) && (t == s)) (table (h_var n i (s - 1))) is in
        let same = and_parts (a == i) (t == s) both.0 in
        let positive : nat_lt 0 t ≡ true = ap (λ (k : ℕ). nat_lt 0 k) (eqb-true t s same.1) ∙ positive_slot s later in
        let its = break_marked var first a t i s placed (ltb-true 0 t positive) slot later slot' ∙ both.0 in
        and_from _ _ (and_from _ _ positive its) (before both.0 ∙ both.1)) where
          before : ((a == i) && (t == s)) ≡ true → table (h_var n a (t - 1)) ≡ table (h_var n i (s - 1))
          before is =
              let same = and_parts (a == i) (t == s) is in
              ap (λ (k : ℕ). table (h_var n k (t - 1))) (eqb-true a i same.0) ∙ ap
              (λ (k : ℕ). table (h_var n i (k - 1))) (eqb-true t s same.1)

          positive_slot : (k : ℕ) → 0 < k → nat_lt 0 k ≡ true
          positive_slot k above = grind (arith, nat_tests)

    twice : (s : ℕ) (a b : Bool) → 0 < s → (b && a) ≡ (nat_lt 0 s && a && b)
    twice s a b later = grind (arith, nat_tests)

    -- a break, where a table says in which slots the team is at home, or away
    pub home_breaks_marked : (table : ℕ → Bool) (i s : ℕ) →
        ((t : ℕ) → t < slot_count n → table (h_var n i t) ≡ nat_lt 0 (home_games n (counts_of games) i t)) → 0 < s →
        s < slot_count n →
        list_any (marks_home_break n table (hb_var n i s)) games ≡ is_home_break n (counts_of games) i s
    home_breaks_marked table i s told later slot =
        let team_is : Game → Bool = λ g. (g.home.0 == i) && (g.slot.0 == s) in
        let placed : (a t : ℕ) → hb_var n a t ≡ 1 + x_count n + h_count n + b_place n a t =
        λ a t. omega (arith, hb_var-place n a t) in
        list_any-agree (IsGame n) (marks_home_break n table (hb_var n i s))
        (λ g. team_is g && table (h_var n i (s - 1)))
        (λ g fits. break_parts table (hb_var n) (1 + x_count n + h_count n) g.home.0 g.slot.0 i s placed fits.slot
        later slot) games fit
        ∙ list_any-both team_is (table (h_var n i (s - 1))) games
        ∙ ap (λ (b : Bool). b && table (h_var n i (s - 1))) (homes_played i s)
        ∙ ap (λ (b : Bool). nat_lt 0 (home_games n (counts_of games) i s) && b) (told (s - 1) (omega arith))
        ∙ twice s (nat_lt 0 (home_games n (counts_of games) i (s - 1)))
        (nat_lt 0 (home_games n (counts_of games) i s)) later

    pub away_breaks_marked : (table : ℕ → Bool) (i s : ℕ) →
        ((t : ℕ) → t < slot_count n → table (h_var n i t) ≡ nat_lt 0 (away_games n (counts_of games) i t)) → 0 < s →
        s < slot_count n →
        list_any (marks_away_break n table (ab_var n i s)) games ≡ is_away_break n (counts_of games) i s
    away_breaks_marked table i s told later slot =
        let team_is : Game → Bool = λ g. (g.away.0 == i) && (g.slot.0 == s) in
        let first : ℕ = 1 + x_count n + h_count n + hb_count n in
        let placed : (a t : ℕ) → ab_var n a t ≡ first + b_place n a t = λ a t. omega (arith, ab_var-place n a t) in
        list_any-agree (IsGame n) (marks_away_break n table (ab_var n i s))
        (λ g. team_is g && table (h_var n i (s - 1)))
        (λ g fits. break_parts table (ab_var n) first g.away.0 g.slot.0 i s placed fits.slot later slot) games fit
        ∙ list_any-both team_is (table (h_var n i (s - 1))) games
        ∙ ap (λ (b : Bool). b && table (h_var n i (s - 1))) (aways_played i s)
        ∙ ap (λ (b : Bool). nat_lt 0 (away_games n (counts_of games) i s) && b) (told (s - 1) (omega arith))
        ∙ twice s (nat_lt 0 (away_games n (counts_of games) i (s - 1)))
        (nat_lt 0 (away_games n (counts_of games) i s)) later

    -- variables of one kind aren't marked as those of another
    pub no_game_marked : (v : ℕ) → x_count n < v → list_any (marks_game n v) games ≡ false
    no_game_marked v past =
        list_any-never (IsGame n) (marks_game n v)
        (λ g fits. ne_eqb (x_var n g.home.0 g.away.0 g.slot.0) v
        (λ same. omega (
          arith,
          x_var-place n g.home.0 g.away.0 g.slot.0,
          x_place-below n g.home.0 g.away.0 g.slot.0
              fits.home fits.away fits.differ fits.slot,
        ))) games fit

    pub no_home_marked : (v : ℕ) → v ≤ x_count n → list_any (marks_home n v) games ≡ false
    no_home_marked v before =
        list_any-never (IsGame n) (marks_home n v)
        (λ g fits. ne_eqb (h_var n g.home.0 g.slot.0) v (λ same. omega (arith, h_var-place n g.home.0 g.slot.0)))
        games fit

    pub no_home_marked_past : (v : ℕ) → x_count n + h_count n < v → list_any (marks_home n v) games ≡ false
    no_home_marked_past v past =
        list_any-never (IsGame n) (marks_home n v)
        (λ g fits. ne_eqb (h_var n g.home.0 g.slot.0) v
        (λ same. omega (
          arith,
          h_var-place n g.home.0 g.slot.0,
          h_place-below n g.home.0 g.slot.0 fits.home
              fits.slot,
        ))) games fit

    not_its : (a b c : Bool) → b ≡ false → (a && b && c) ≡ false
    not_its a b c other = grind arith

    pub no_home_break_marked : (table : ℕ → Bool) (v : ℕ) → v ≤ x_count n + h_count n →
        list_any (marks_home_break n table v) games ≡ false
    no_home_break_marked table v before =
        list_any-never (IsGame n) (marks_home_break n table v)
        (λ g fits. not_its _ _ _ (ne_eqb (hb_var n g.home.0 g.slot.0) v
        (λ same. omega (arith, hb_var-place n g.home.0 g.slot.0)))) games fit

    pub no_home_break_marked_past : (table : ℕ → Bool) (v : ℕ) → x_count n + h_count n + hb_count n < v →
        list_any (marks_home_break n table v) games ≡ false
    no_home_break_marked_past table v past =
        list_any-never (IsGame n) (marks_home_break n table v)
        (λ g fits. at_slot g fits (nat_lt 0 g.slot.0) refl) games fit where
          at_slot : (g : Game) → IsGame n g → (b : Bool) → nat_lt 0 g.slot.0 ≡ b →
              marks_home_break n table v g ≡ false
          at_slot g fits true later =
              not_its _ _ _ (ne_eqb (hb_var n g.home.0 g.slot.0) v
              (λ same. omega (
                arith,
                hb_var-place n g.home.0 g.slot.0,
                b_place-below n g.home.0 g.slot.0 fits.home
                    (ltb-true 0 g.slot.0 later) fits.slot,
              )))
          at_slot g fits false first = ap (λ (b : Bool). b && (hb_var n g.home.0 g.slot.0 == v) && table
              (h_var n g.home.0 (g.slot.0 - 1))) first

    pub no_away_break_marked : (table : ℕ → Bool) (v : ℕ) → v ≤ x_count n + h_count n + hb_count n →
        list_any (marks_away_break n table v) games ≡ false
    no_away_break_marked table v before =
        list_any-never (IsGame n) (marks_away_break n table v)
        (λ g fits. not_its _ _ _ (ne_eqb (ab_var n g.away.0 g.slot.0) v
        (λ same. omega (arith, ab_var-place n g.away.0 g.slot.0)))) games fit
