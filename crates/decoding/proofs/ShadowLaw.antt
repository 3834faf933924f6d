-- What was marked for the games, the home games and the breaks of a schedule is its shadow.
use Rattle.std.proofs.Common.{◌≡◌, ℕ, ◌+◌, ◌<◌, ◌≤◌, Bool, true, false, ◌||◌, nat_lt, List, refl, arith, ap, ◌∙◌}
use Rattle.std.specs.List.{All, list_any}
use Rattle.league.specs.Breaks.{is_away_break, is_home_break}
use Rattle.league.specs.Counts.{counts_of, slot_count}
use Rattle.league.specs.Instance.{IsGame}
use Rattle.league.specs.Venues.{away_games, home_games}
use Rattle.league.specs.declared.game.Game.{Game}
use Rattle.encoding.specs.Shadow.{IsShadow}
use Rattle.encoding.specs.Variables.{ab_var, h_count, h_var, hb_var, x_count, x_var}
use Rattle.encoding.proofs.PlaceLemmas.{ab_var-place, b_place-below, h_place-below, h_var-place, hb_var-place}
use Rattle.encoding.proofs.PlaceLemmas.{x_place-below, x_var-place}
use Rattle.decoding.specs.Marks.{marks_away, marks_away_break, marks_game, marks_home, marks_home_break}
use Rattle.decoding.proofs.ShadowLemmas.{away_breaks_marked, aways_marked, games_marked, home_breaks_marked}
use Rattle.decoding.proofs.ShadowLemmas.{homes_marked, no_away_break_marked}
use Rattle.decoding.proofs.ShadowLemmas.{no_game_marked, no_home_break_marked, no_home_break_marked_past}
use Rattle.decoding.proofs.ShadowLemmas.{no_home_marked, no_home_marked_past}

-- a value that was marked or stood before
either : (marked before a b : Bool) → marked ≡ a → before ≡ b → (marked || before) ≡ (a || b)
either marked before a b first second = ap (λ (x : Bool). x || before) first ∙ ap (λ (y : Bool). a || y) second

or-false : (b : Bool) → (b || false) ≡ b
or-false true = refl
or-false false = refl

module _ (n : ℕ) (games : List Game) (fit : All (IsGame n) games) where
  -- a table of home games, and one of away games
  pub home_told : (table empty : ℕ → Bool) → ((v : ℕ) → empty v ≡ false) →
      ((v : ℕ) → 1 ≤ v → table v ≡ (list_any (marks_home n v) games || empty v)) →
      (i s : ℕ) → s < slot_count n → table (h_var n i s) ≡ nat_lt 0 (home_games n (counts_of games) i s)
  home_told table empty none marked i s slot =
      marked (h_var n i s) (omega (arith, h_var-place n i s))
      ∙ either (list_any (marks_home n (h_var n i s)) games) (empty (h_var n i s))
      (nat_lt 0 (home_games n (counts_of games) i s)) false (homes_marked n games fit i s slot) (none (h_var n i s))
      ∙ or-false (nat_lt 0 (home_games n (counts_of games) i s))

  pub away_told : (table empty : ℕ → Bool) → ((v : ℕ) → empty v ≡ false) →
      ((v : ℕ) → 1 ≤ v → table v ≡ (list_any (marks_away n v) games || empty v)) →
      (i s : ℕ) → s < slot_count n → table (h_var n i s) ≡ nat_lt 0 (away_games n (counts_of games) i s)
  away_told table empty none marked i s slot =
      marked (h_var n i s) (omega (arith, h_var-place n i s))
      ∙ either (list_any (marks_away n (h_var n i s)) games) (empty (h_var n i s))
      (nat_lt 0 (away_games n (counts_of games) i s)) false (aways_marked n games fit i s slot) (none (h_var n i s))
      ∙ or-false (nat_lt 0 (away_games n (counts_of games) i s))

  -- values before and after the home breaks, and then the away breaks, were marked by these tables
  module _ (home away before between after : ℕ → Bool)
      (home_is : (i s : ℕ) → s < slot_count n → home (h_var n i s) ≡ nat_lt 0 (home_games n (counts_of games) i s))
      (away_is : (i s : ℕ) → s < slot_count n → away (h_var n i s) ≡ nat_lt 0 (away_games n (counts_of games) i s))
      (first : (v : ℕ) → 1 ≤ v → between v ≡ (list_any (marks_home_break n home v) games || before v))
      (second : (v : ℕ) → 1 ≤ v → after v ≡ (list_any (marks_away_break n away v) games || between v)) where
    pub breaks_keep : (v : ℕ) → 1 ≤ v → v ≤ x_count n + h_count n → after v ≡ before v
    breaks_keep v one within =
        second v one
        ∙ ap (λ (b : Bool). b || between v) (no_away_break_marked n games fit away v (omega arith))
        ∙ first v one
        ∙ ap (λ (b : Bool). b || before v) (no_home_break_marked n games fit home v within)

    pub home_breaks_set : (i s : ℕ) → i < n → 0 < s → s < slot_count n →
        after (hb_var n i s) ≡ (is_home_break n (counts_of games) i s || before (hb_var n i s))
    home_breaks_set i s team later slot =
        let v : ℕ = hb_var n i s in
        let one : 1 ≤ v = omega (arith, hb_var-place n i s) in
        second v one
        ∙ ap (λ (b : Bool). b || between v) (no_away_break_marked n games fit away v
        (omega (arith, hb_var-place n i s, b_place-below n i s team later slot)))
        ∙ first v one
        ∙ ap (λ (b : Bool). b || before v) (home_breaks_marked n games fit home i s (home_is i) later slot)

    pub away_breaks_set : (i s : ℕ) → i < n → 0 < s → s < slot_count n →
        after (ab_var n i s) ≡ (is_away_break n (counts_of games) i s || before (ab_var n i s))
    away_breaks_set i s team later slot =
        let v : ℕ = ab_var n i s in
        let one : 1 ≤ v = omega (arith, ab_var-place n i s) in
        second v one
        ∙ either (list_any (marks_away_break n away v) games) (between v) (is_away_break n (counts_of games) i s)
        (before v)
        (away_breaks_marked n games fit away i s (away_is i) later slot)
        (first v one ∙ ap (λ (b : Bool). b || before v)
        (no_home_break_marked_past n games fit home v (omega (arith, ab_var-place n i s))))

  -- values where nothing is true, where the games are, where the home games are, and where the breaks are
  pub IsShadow-from_marks : (breaks : Bool) (empty played venues values : ℕ → Bool) → ((v : ℕ) → empty v ≡ false) →
      ((v : ℕ) → 1 ≤ v → played v ≡ (list_any (marks_game n v) games || empty v)) →
      ((v : ℕ) → 1 ≤ v → venues v ≡ (list_any (marks_home n v) games || played v)) →
      ((v : ℕ) → 1 ≤ v → v ≤ x_count n + h_count n → values v ≡ venues v) →
      (breaks ≡ true → (i s : ℕ) → i < n → 0 < s → s < slot_count n →
      values (hb_var n i s) ≡ (is_home_break n (counts_of games) i s || venues (hb_var n i s))) →
      (breaks ≡ true → (i s : ℕ) → i < n → 0 < s → s < slot_count n →
      values (ab_var n i s) ≡ (is_away_break n (counts_of games) i s || venues (ab_var n i s))) →
      IsShadow n breaks (counts_of games) values
  IsShadow-from_marks breaks empty played venues values none of_games of_homes kept of_home_breaks of_away_breaks =
      let past : (v : ℕ) → x_count n + h_count n < v → venues v ≡ false = λ v later.
      of_homes v (omega arith)
      ∙ ap (λ (b : Bool). b || played v) (no_home_marked_past n games fit v later)
      ∙ of_games v (omega arith)
      ∙ ap (λ (b : Bool). b || empty v) (no_game_marked n games fit v (omega arith))
      ∙ none v in
      record {
        games = λ i j s home away differ slot.
            let v : ℕ = x_var n i j s in
            let one : 1 ≤ v = omega (arith, x_var-place n i j s) in
            let within : v ≤ x_count n = omega (
              arith,
              x_var-place n i j s,
              x_place-below n i j s home away differ
                  slot,
            ) in
            kept v one (omega arith)
            ∙ of_homes v one
            ∙ ap (λ (b : Bool). b || played v) (no_home_marked n games fit v within)
            ∙ of_games v one
            ∙ either (list_any (marks_game n v) games) (empty v) (nat_lt 0 (counts_of games i j s)) false
            (games_marked n games fit i j s home away differ slot) (none v)
            ∙ or-false (nat_lt 0 (counts_of games i j s));
        venues = λ i s team slot.
            let v : ℕ = h_var n i s in
            let one : 1 ≤ v = omega (arith, h_var-place n i s) in
            kept v one (omega (arith, h_var-place n i s, h_place-below n i s team slot))
            ∙ of_homes v one
            ∙ either (list_any (marks_home n v) games) (played v) (nat_lt 0 (home_games n (counts_of games) i s)) false
            (homes_marked n games fit i s slot)
            (of_games v one ∙ ap (λ (b : Bool). b || empty v)
            (no_game_marked n games fit v (omega (arith, h_var-place n i s))) ∙ none v)
            ∙ or-false (nat_lt 0 (home_games n (counts_of games) i s));
        home_breaks = λ has i s team later slot.
            of_home_breaks has i s team later slot
            ∙ ap (λ (b : Bool). is_home_break n (counts_of games) i s || b)
            (past (hb_var n i s) (omega (arith, hb_var-place n i s)))
            ∙ or-false (is_home_break n (counts_of games) i s);
        away_breaks = λ has i s team later slot.
            of_away_breaks has i s team later slot
            ∙ ap (λ (b : Bool). is_away_break n (counts_of games) i s || b)
            (past (ab_var n i s) (omega (arith, ab_var-place n i s)))
            ∙ or-false (is_away_break n (counts_of games) i s);
      }
