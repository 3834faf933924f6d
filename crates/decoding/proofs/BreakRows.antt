-- Group 7 says that hb(i,s) and ab(i,s) are the breaks: home breaks where h is true in the slot and in the slot
-- before, and away breaks where it is false in both.
use Rattle.std.proofs.Common.{◌≡◌, ℕ, zero, suc, ◌+◌, ◌-◌, ◌<◌, Bool, true, false, not, ◌&&◌, ◌||◌}
use Rattle.std.proofs.Common.{nat_lt, List, [], ◌∷◌, cond}
use Rattle.std.proofs.Common.{refl, arith, ap, ◌∙◌, sym}
use Rattle.std.specs.Prelude.{nat_le}
use Rattle.std.proofs.lemmas.Bool.{and_from, and_parts, false≢true}
use Rattle.std.proofs.lemmas.Bool.Decides.{nat_tests}
use Rattle.std.specs.List.{filter, flat_map, list_all}
use Rattle.league.specs.Breaks.{is_away_break, is_home_break}
use Rattle.league.specs.Counts.{Counts, slot_count, slots_of, teams_of}
use Rattle.league.specs.Venues.{away_games, home_games}
use Rattle.league.proofs.RangeLemmas.{one_if}
use Rattle.rows.specs.Tests.{all_satisfied, satisfied}
use Rattle.rows.proofs.ListLemmas.{list_all-flat_map, list_all-same}
use Rattle.encoding.specs.Lists.{after_first}
use Rattle.encoding.specs.Season.{break_rows, break_rows_at}
use Rattle.encoding.specs.Variables.{ab_var, h_var, hb_var}
use Rattle.decoding.specs.Mirrors.{Mirrors, MirrorsBreaks}
use Rattle.decoding.proofs.VenueLaws.{agree, agree-true, all_cells, each_cell, true-agree}

-- the six clauses about breaks, over the values of h in the slot before and in the slot, and of hb and ab
abbrev clauses : Bool → Bool → Bool → Bool → Bool
clauses p q b a =
    nat_le 1 (0 + one_if p + one_if (not b))
    && (nat_le 1 (0 + one_if q + one_if (not b))
    && (nat_le 1 (0 + one_if (not p) + one_if (not q) + one_if b)
    && (nat_le 1 (0 + one_if (not p) + one_if (not a))
    && (nat_le 1 (0 + one_if (not q) + one_if (not a))
    && (nat_le 1 (0 + one_if p + one_if q + one_if a)
    && true)))))

six_law : (p q b a : Bool) → clauses p q b a ≡ (agree b (p && q) && agree a (not p && not q))
six_law true true true true = refl
six_law true true true false = refl
six_law true true false true = refl
six_law true true false false = refl
six_law true false true true = refl
six_law true false true false = refl
six_law true false false true = refl
six_law true false false false = refl
six_law false true true true = refl
six_law false true true false = refl
six_law false true false true = refl
six_law false true false false = refl
six_law false false true true = refl
six_law false false true false = refl
six_law false false false true = refl
six_law false false false false = refl

-- whether hb and ab at slot s are what h says in s and in the slot before
abbrev pub breaks_agree : ℕ → (ℕ → Bool) → ℕ → ℕ → Bool
breaks_agree n values i s =
    agree (values (hb_var n i s)) (values (h_var n i (s - 1)) && values (h_var n i s))
    && agree (values (ab_var n i s)) (not (values (h_var n i (s - 1))) && not (values (h_var n i s)))

-- group 7, of one team and slot
break_law : (n : ℕ) (values : ℕ → Bool) (i s : ℕ) →
    all_satisfied values (break_rows_at n i s) ≡ breaks_agree n values i s
break_law n values i s = six_law (values (h_var n i (s - 1))) (values (h_var n i s)) (values (hb_var n i s))
    (values (ab_var n i s))

-- a test of those that pass another
list_all-filter_or : {X : Type 0} (p q : X → Bool) (xs : List X) →
    list_all p (filter q xs) ≡ list_all (λ x. not (q x) || p x) xs
list_all-filter_or p q [] = refl
list_all-filter_or p q (x ∷ xs) = by (list_all-filter_or p q xs) (q x) where
  by : list_all p (filter q xs) ≡ list_all (λ y. not (q y) || p y) xs → (b : Bool) →
      list_all p (cond b (x ∷ filter q xs) (filter q xs)) ≡ ((not b || p x) && list_all (λ y. not (q y) || p y) xs)
  by rest true = ap (λ (c : Bool). p x && c) rest
  by rest false = rest

-- group 7, where breaks have variables
pub break_rows-law : (n : ℕ) (values : ℕ → Bool) →
    all_satisfied values (break_rows n true) ≡ list_all
    (λ i. list_all (λ s. not (nat_lt 0 s) || breaks_agree n values i s) (slots_of n)) (teams_of n)
break_rows-law n values =
    list_all-flat_map (satisfied values) (λ i. flat_map (break_rows_at n i) (after_first (slots_of n))) (teams_of n)
    ∙ list_all-same (λ i. all_satisfied values (flat_map (break_rows_at n i) (after_first (slots_of n))))
    (λ i. list_all (λ s. not (nat_lt 0 s) || breaks_agree n values i s) (slots_of n))
    (λ i.
    list_all-flat_map (satisfied values) (break_rows_at n i) (after_first (slots_of n))
    ∙ list_all-same (λ s. all_satisfied values (break_rows_at n i s)) (breaks_agree n values i)
    (break_law n values i) (after_first (slots_of n))
    ∙ list_all-filter_or (breaks_agree n values i) (λ s. nat_lt 0 s) (slots_of n)) (teams_of n)

-- h is whether there is a home game, and its negation whether there is an away game
pub home_value : (n : ℕ) (m : Counts) (values : ℕ → Bool) (i s : ℕ) → Mirrors n m values → i < n → s < slot_count n →
    values (h_var n i s) ≡ nat_lt 0 (home_games n m i s)
home_value n m values i s mirrors team slot = one_is (values (h_var n i s)) (home_games n m i s)
    (mirrors.home i s team slot) where
      one_is : (b : Bool) (count : ℕ) → one_if b ≡ count → b ≡ nat_lt 0 count
      one_is true count is = grind (arith, nat_tests)
      one_is false count is = grind (arith, nat_tests)

pub away_value : (n : ℕ) (m : Counts) (values : ℕ → Bool) (i s : ℕ) → Mirrors n m values → i < n → s < slot_count n →
    not (values (h_var n i s)) ≡ nat_lt 0 (away_games n m i s)
away_value n m values i s mirrors team slot = one_is (not (values (h_var n i s))) (away_games n m i s)
    (mirrors.away i s team slot) where
      one_is : (b : Bool) (count : ℕ) → one_if b ≡ count → b ≡ nat_lt 0 count
      one_is true count is = grind (arith, nat_tests)
      one_is false count is = grind (arith, nat_tests)

later_slot : (s : ℕ) (a b : Bool) → 0 < s → (a && b) ≡ (nat_lt 0 s && a && b)
later_slot s a b later = grind (arith, nat_tests)

-- a home break is a home game in the slot before and in the slot, and an away break none in both
pub home_break_value : (n : ℕ) (m : Counts) (values : ℕ → Bool) (i s : ℕ) → Mirrors n m values → i < n → 0 < s →
    s < slot_count n → (values (h_var n i (s - 1)) && values (h_var n i s)) ≡ is_home_break n m i s
home_break_value n m values i s mirrors team later slot =
    ap (λ (b : Bool). b && values (h_var n i s)) (home_value n m values i (s - 1) mirrors team (omega arith))
    ∙ ap (λ (b : Bool). nat_lt 0 (home_games n m i (s - 1)) && b) (home_value n m values i s mirrors team slot)
    ∙ later_slot s (nat_lt 0 (home_games n m i (s - 1))) (nat_lt 0 (home_games n m i s)) later

pub away_break_value : (n : ℕ) (m : Counts) (values : ℕ → Bool) (i s : ℕ) → Mirrors n m values → i < n → 0 < s →
    s < slot_count n → (not (values (h_var n i (s - 1))) && not (values (h_var n i s))) ≡ is_away_break n m i s
away_break_value n m values i s mirrors team later slot =
    ap (λ (b : Bool). b && not (values (h_var n i s))) (away_value n m values i (s - 1) mirrors team (omega arith))
    ∙ ap (λ (b : Bool). nat_lt 0 (away_games n m i (s - 1)) && b) (away_value n m values i s mirrors team slot)
    ∙ later_slot s (nat_lt 0 (away_games n m i (s - 1))) (nat_lt 0 (away_games n m i s)) later

pub after_first_passes : (s : ℕ) (b : Bool) → 0 < s → (not (nat_lt 0 s) || b) ≡ true → b ≡ true
after_first_passes s b later pass = grind (arith, nat_tests)

-- where group 7 is satisfied, hb and ab are the breaks
pub MirrorsBreaks-from_rows : (n : ℕ) (m : Counts) (values : ℕ → Bool) → Mirrors n m values →
    all_satisfied values (break_rows n true) ≡ true → MirrorsBreaks n m values
MirrorsBreaks-from_rows n m values mirrors pass =
    let test : ℕ → ℕ → Bool = λ i s. not (nat_lt 0 s) || breaks_agree n values i s in
    let each : list_all (λ i. list_all (test i) (slots_of n)) (teams_of n) ≡ true =
    sym (break_rows-law n values) ∙ pass in
    let both = λ (i : ℕ) (s : ℕ) (team : i < n) (later : 0 < s) (slot : s < slot_count n).
    and_parts _ _ (after_first_passes s (breaks_agree n values i s) later (each_cell n test each i s team slot))
    in
    record {
      home = λ i s team later slot. agree-true _ _ (both i s team later slot).0 ∙ home_break_value n m values i s
          mirrors team later slot;
      away = λ i s team later slot. agree-true _ _ (both i s team later slot).1 ∙ away_break_value n m values i s
          mirrors team later slot;
    }

first_or_passes : (s : ℕ) (b : Bool) → (0 < s → b ≡ true) → (not (nat_lt 0 s) || b) ≡ true
first_or_passes s true pass = grind (arith, nat_tests)
first_or_passes zero false pass = grind (arith, nat_tests)
first_or_passes (suc s) false pass = absurd (false≢true (pass (omega arith)))

-- where hb and ab are the breaks, group 7 is satisfied
pub break_rows-met : (n : ℕ) (m : Counts) (values : ℕ → Bool) → Mirrors n m values → MirrorsBreaks n m values →
    all_satisfied values (break_rows n true) ≡ true
break_rows-met n m values mirrors breaks =
    break_rows-law n values
    ∙ all_cells n (λ i s. not (nat_lt 0 s) || breaks_agree n values i s)
    (λ i s team slot. first_or_passes s (breaks_agree n values i s) (λ later.
    and_from _ _
    (true-agree _ _ (breaks.home i s team later slot ∙ sym (home_break_value n m values i s mirrors team later slot)))
    (true-agree _ _ (breaks.away i s team later slot ∙ sym
    (away_break_value n m values i s mirrors team later slot)))))
