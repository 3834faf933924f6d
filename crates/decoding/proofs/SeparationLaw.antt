-- All rows of a key of SE1 are satisfied exactly where the key's entry is 0.
use Rattle.std.proofs.Common.{◌≡◌, ℕ, ◌+◌, ◌-◌, ◌<◌, ◌≤◌, Bool, true, false, not, ◌==◌, cond, nat_lt, min as smaller}
use Rattle.std.proofs.Common.{List, [], ◌∷◌, ◌++◌, map, refl, arith, ap, sym, ◌∙◌}
use Rattle.std.specs.Prelude.{nat_le}
use Rattle.std.proofs.lemmas.Bool.{and_from, eq-eqb, eqb-true, lt-ltb, ltb-true}
use Rattle.std.proofs.lemmas.List.Folds.{list_all-map, sum_by-zero}
use Rattle.std.specs.List.{range_with_len, sum_by}
use Rattle.league.specs.Capacity.{meetings_with}
use Rattle.league.specs.Counts.{Counts, slot_count}
use Rattle.league.specs.Meetings.{games_of}
use Rattle.league.specs.Separation.{se1_entry}
use Rattle.league.specs.Venues.{away_games, home_games}
use Rattle.league.specs.declared.class.Side.TheVariants.{Both}
use Rattle.league.proofs.RangeLemmas.{one_if}
use Rattle.league.proofs.SumLemmas.{sum_by-add}
use Rattle.rows.specs.Cardinality.{at_most}
use Rattle.rows.specs.Tests.{all_satisfied, satisfied, true_count}
use Rattle.rows.proofs.ListLemmas.{list_all-agree, list_all-weaker, sum_by-range-part}
use Rattle.rows.proofs.TestLemmas.{satisfied-at_most}
use Rattle.encoding.specs.Demands.{se1_rows, separation_windows}
use Rattle.encoding.specs.Lists.{games_in}
use Rattle.encoding.specs.Variables.{h_var}
use Rattle.decoding.specs.Below.{all_below}
use Rattle.decoding.specs.Mirrors.{Mirrors}
use Rattle.decoding.proofs.GapLemmas.{lacking-windows}
use Rattle.decoding.proofs.MeetingLists.{games_listed, meetings_with-fit, windows_of-fit}

-- a term of a sum over all teams
term-le : (f : ℕ → ℕ) (n i : ℕ) → i < n → f i ≤ sum_by f (range_with_len 0 n)
term-le f n i inside = omega (arith, sum_by-range-part f 0 n i 1 (omega arith) (omega arith))

home_or_away : (b : Bool) → one_if b + one_if (not b) ≡ 1
home_or_away true = refl
home_or_away false = refl

module _ (n : ℕ) (m : Counts) (values : ℕ → Bool) (mirrors : Mirrors n m values) where
  -- a team has one game in a slot
  pub one_game : (i s : ℕ) → i < n → s < slot_count n → home_games n m i s + away_games n m i s ≡ 1
  one_game i s team slot =
      omega (arith, mirrors.home i s team slot, mirrors.away i s team slot, home_or_away (values (h_var n i s)))

  -- two teams have at most one game with each other in a slot, and a team none with itself
  pub mutual-le : (i j s : ℕ) → i < n → j < n → s < slot_count n → m i j s + m j i s ≤ 1
  mutual-le i j s first second slot =
      omega (arith, one_game i s first slot, term-le (λ k. m i k s) n j second, term-le (λ k. m k i s) n j second)

  none_with_itself : (i : ℕ) → i < n → (window : List ℕ) → all_below (slot_count n) window ≡ true
      → sum_by (λ s. m i i s + m i i s) window ≡ 0
  none_with_itself i team window fit =
      eqb-true (sum_by (λ s. m i i s + m i i s) window) 0
      (sum_by-zero (λ s. m i i s + m i i s) window
      ∙ list_all-weaker (λ s. nat_lt s (slot_count n)) (λ s. m i i s + m i i s == 0)
      (λ s slot. eq-eqb (m i i s + m i i s) 0
      (omega (arith, mutual-le i i s team team (ltb-true s (slot_count n) slot)))) window fit)

  -- the mutual games in a window
  mutual_games_of : (i j : ℕ) → i < n → j < n → (window : List ℕ) → all_below (slot_count n) window ≡ true
      → games_of m (meetings_with Both i (j ∷ [])) window ≡ sum_by (λ s. m i j s + m j i s) window
  mutual_games_of i j first second window fit = by (j == i) refl where
    by : (b : Bool) → (j == i) ≡ b → games_of m
        (map (λ k. (i, k)) (cond (not b) (j ∷ []) []) ++ map (λ k. (k, i)) (cond (not b) (j ∷ []) [])) window
        ≡ sum_by (λ s. m i j s + m j i s) window
    by true same =
        sym (none_with_itself i first window fit)
        ∙ ap (λ (k : ℕ). sum_by (λ s. m i k s + m k i s) window) (sym (eqb-true j i same))
    by false differ = omega (arith, sum_by-add (λ s. m i j s) (λ s. m j i s) window)

  pub satisfied-se1 : (min : ℕ) (p : ℕ × ℕ) → p.0 < n → p.1 < n
      → all_satisfied values (se1_rows n min p) ≡ (se1_entry n m min p == 0)
  satisfied-se1 min p first second =
      let width : ℕ = smaller (min + 1) (slot_count n) in
      let games : ℕ → ℕ = λ s. m p.0 p.1 s + m p.1 p.0 s in
      let row = λ (window : List ℕ). at_most 1 (games_in n (meetings_with Both p.0 (p.1 ∷ [])) window) in
      list_all-map (satisfied values) row (separation_windows n min)
      ∙ list_all-agree (all_below (slot_count n)) (λ window. satisfied values (row window))
      (λ window. nat_le (sum_by games window) 1)
      (λ window fit.
      satisfied-at_most values 1 (games_in n (meetings_with Both p.0 (p.1 ∷ [])) window)
      ∙ ap (λ (k : ℕ). nat_le k 1) (listed window fit)) (separation_windows n min) (windows_of-fit n width)
      ∙ list_all-map (λ window. nat_le (sum_by games window) 1) (λ first. range_with_len first width)
      (range_with_len 0 (slot_count n + 1 - width))
      ∙ sym (lacking-windows games min (slot_count n) (λ s slot. mutual-le p.0 p.1 s first second slot)) where
        other_fits : all_below n (p.1 ∷ []) ≡ true
        other_fits = and_from (nat_lt p.1 n) true (lt-ltb p.1 n second) refl

        listed : (window : List ℕ) → all_below (slot_count n) window ≡ true
            → true_count values (games_in n (meetings_with Both p.0 (p.1 ∷ [])) window)
            ≡ sum_by (λ s. m p.0 p.1 s + m p.1 p.0 s) window
        listed window fit =
            games_listed n m values (meetings_with Both p.0 (p.1 ∷ [])) window mirrors.games
            (meetings_with-fit n p.0 first (p.1 ∷ []) other_fits Both) fit
            ∙ mutual_games_of p.0 p.1 first second window fit
