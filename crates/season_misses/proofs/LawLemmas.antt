-- At each key the amounts of the reasons add up to the entry: class by class.
use Rattle.std.proofs.Common.{◌≡◌, ℕ, ◌+◌, ◌-◌, ◌<◌, zero, suc, Bool, true, false, ◌&&◌, nat_lt, max, cond, List, [], ◌∷◌, length, get_or, refl, arith, ap, sym, ◌∙◌, zero-add}
use Rattle.std.proofs.lemmas.Bool.{cond_both}
use Rattle.std.proofs.lemmas.Bool.Decides.{nat_tests}
use Rattle.std.proofs.lemmas.List.{get_or-map, length-append}
use Rattle.std.proofs.lemmas.List.Concat.{length-flat_map}
use Rattle.std.proofs.lemmas.List.Sums.{length-filter}
use Rattle.std.specs.List.{All, count_by, filter, flat_map, fold, range_with_len, sum_by}
use Rattle.std.specs.Ordering.{nat_cmp}
use Rattle.league.specs.Bounds.{excess, largest, outside}
use Rattle.league.specs.Breaks.{breaks_among, breaks_at, is_away_break, is_home_break}
use Rattle.league.specs.Capacity.{ca1_entry, ca2_entry, ca3_entry, meetings_with}
use Rattle.league.specs.Counts.{counts_of, slot_count}
use Rattle.league.specs.Deviation.{entry_of}
use Rattle.league.specs.Instance.{IsGame}
use Rattle.league.specs.Meetings.{games_of}
use Rattle.league.specs.Sets.{IsAscending, is_in}
use Rattle.league.specs.declared.class.Class.TheVariants.{Ca1, Ca2, Ca3, Br1, Br2}
use Rattle.league.specs.declared.class.Side.{Side}
use Rattle.league.specs.declared.class.Side.TheVariants.{H, A, Both}
use Rattle.league.specs.declared.game.Game.{Game}
use Rattle.league.proofs.RangeLemmas.{one_if}
use Rattle.league.proofs.SumLemmas.{sum_by-flat_map, sum_by-map, sum_by-same}
use Rattle.rule_core.specs.Touched.{plays_against}
use Rattle.season_misses.specs.Counting.{counts_in_ca1, counts_in_ca2, counts_in_ca3}
use Rattle.season_misses.specs.Reasons.{break_of, breaks_at_slot, breaks_of, by_window, reasons_at, where_missed}
use Rattle.season_misses.specs.declared.reason.Break.{Break}
use Rattle.season_misses.specs.declared.reason.Cause.{Cause}
use Rattle.season_misses.specs.declared.reason.Cause.TheVariants.{Games, Window, Breaks}
use Rattle.season_misses.specs.declared.reason.Reason.{Reason}
use Rattle.season_misses.proofs.CountLemmas.{games_of-counted, games_on-counted, is_against, times-meetings_with}
use Rattle.season_misses.proofs.ListLemmas.{is_in-range, range-ascending}

-- what some reasons amount to
abbrev pub missed : List Reason → ℕ
missed reasons = sum_by (λ reason. reason.amount) reasons

not_above : (x : ℕ) → nat_lt 0 x ≡ false → 0 ≡ x
not_above x h = grind (arith, nat_tests)

pub missed-where : (key amount : ℕ) (cause : Cause) → missed (where_missed key amount cause) ≡ amount
missed-where key amount cause =
    cond_both (nat_lt 0 amount) (record { key = key; amount = amount; cause = cause } ∷ []) [] (λ reasons. missed reasons ≡ amount)
    (λ e. zero-add amount)
    (λ e. not_above amount e)

module _ (n : ℕ) (games : List Game) (fit : All (IsGame n) games) where
  -- CA1
  pub ca1-adds_up : (teams : List ℕ) (min max : ℕ) (side : Side) (slots : List ℕ) (key : ℕ) → IsAscending nat_cmp slots → key < length teams → missed (reasons_at n games (Ca1 teams min max side slots) key) ≡ entry_of n (counts_of games) (Ca1 teams min max side slots) key
  ca1-adds_up teams min max side slots key ascending inside =
      let i : ℕ = get_or teams key 0 in
      let counted : List Game = filter (counts_in_ca1 side slots i) games in
      missed-where key (outside min max (length counted)) (Games counted)
      ∙ ap (λ (c : ℕ). outside min max c) (length-filter (counts_in_ca1 side slots i) games ∙ games_on-counted n side i slots games ascending fit)
      ∙ sym (get_or-map (ca1_entry n (counts_of games) min max side slots) teams key 0 0 inside)

  against-same : (side : Side) (teams : List ℕ) (g : Game) (i : ℕ) → plays_against side teams g i ≡ is_against side teams i g.home.0 g.away.0
  against-same H teams g i = refl
  against-same A teams g i = refl
  against-same Both teams g i = refl

  -- the games of a team against others
  against-counted : (teams2 : List ℕ) (side : Side) (slots : List ℕ) (i : ℕ) → IsAscending nat_cmp teams2 → IsAscending nat_cmp slots → count_by (counts_in_ca2 teams2 side slots i) games ≡ games_of (counts_of games) (meetings_with side i teams2) slots
  against-counted teams2 side slots i teams_ascend ascending =
      sum_by-same (λ g. one_if (plays_against side teams2 g i && is_in g.slot.0 slots)) (λ g. one_if (is_against side teams2 i g.home.0 g.away.0 && is_in g.slot.0 slots)) (λ g. ap (λ (b : Bool). one_if (b && is_in g.slot.0 slots)) (against-same side teams2 g i)) games
      ∙ games_of-counted (λ home away. is_against side teams2 i home away) (meetings_with side i teams2) slots games ascending
      (λ k d lt. let g : Game = get_or games k d in times-meetings_with side i teams2 g.home.0 g.away.0 teams_ascend (fit k d lt).differ)

  -- CA2
  pub ca2-adds_up : (teams1 teams2 : List ℕ) (min max : ℕ) (side : Side) (slots : List ℕ) (key : ℕ)
      → IsAscending nat_cmp teams2 → IsAscending nat_cmp slots → key < length teams1
      → missed (reasons_at n games (Ca2 teams1 teams2 min max side slots) key)
      ≡ entry_of n (counts_of games) (Ca2 teams1 teams2 min max side slots) key
  ca2-adds_up teams1 teams2 min max side slots key teams_ascend ascending inside =
      let i : ℕ = get_or teams1 key 0 in
      let counted : List Game = filter (counts_in_ca2 teams2 side slots i) games in
      missed-where key (outside min max (length counted)) (Games counted)
      ∙ ap (λ (c : ℕ). outside min max c) (length-filter (counts_in_ca2 teams2 side slots i) games ∙ against-counted teams2 side slots i teams_ascend ascending)
      ∙ sym (get_or-map (ca2_entry (counts_of games) teams2 min max side slots) teams1 key 0 0 inside)

  -- the games of a team against others in a window
  window-counted : (teams2 : List ℕ) (intp : ℕ) (side : Side) (i first : ℕ) → IsAscending nat_cmp teams2 → count_by (counts_in_ca3 teams2 intp side i first) games ≡ games_of (counts_of games) (meetings_with side i teams2) (range_with_len first intp)
  window-counted teams2 intp side i first teams_ascend =
      sum_by-same (λ g. one_if (counts_in_ca3 teams2 intp side i first g)) (λ g. one_if (counts_in_ca2 teams2 side (range_with_len first intp) i g)) (λ g. ap (λ (b : Bool). one_if (plays_against side teams2 g i && b)) (sym (is_in-range first intp g.slot.0))) games
      ∙ against-counted teams2 side (range_with_len first intp) i teams_ascend (range-ascending first intp)

  -- CA3
  pub ca3-adds_up : (teams1 teams2 : List ℕ) (min max intp : ℕ) (side : Side) (key : ℕ) → IsAscending nat_cmp teams2 → key < length teams1 → missed (reasons_at n games (Ca3 teams1 teams2 min max intp side) key) ≡ entry_of n (counts_of games) (Ca3 teams1 teams2 min max intp side) key
  ca3-adds_up teams1 teams2 min max intp side key teams_ascend inside =
      let i : ℕ = get_or teams1 key 0 in
      let firsts : List ℕ = range_with_len 0 (slot_count n + 1 - intp) in
      let counted : ℕ → List Game = λ first. filter (counts_in_ca3 teams2 intp side i first) games in
      sum_by-flat_map (λ reason. reason.amount) (λ first. by_window key min max first (counted first)) firsts
      ∙ sum_by-same (λ first. missed (by_window key min max first (counted first))) (λ first. ca2_entry (counts_of games) teams2 min max side (range_with_len first intp) i)
      (λ first. missed-where key (outside min max (length (counted first))) (Window (record { 0 = first }) (counted first))
      ∙ ap (λ (c : ℕ). outside min max c) (length-filter (counts_in_ca3 teams2 intp side i first) games ∙ window-counted teams2 intp side i first teams_ascend))
      firsts
      ∙ sym (sum_by-map (λ (window : List ℕ). ca2_entry (counts_of games) teams2 min max side window i) (λ first. range_with_len first intp) firsts)
      ∙ sym (get_or-map (ca3_entry n (counts_of games) teams2 min max intp side) teams1 key 0 0 inside)

-- ---- breaks

length-if : {X : Type 0} (b : Bool) (x : X) → length (cond b (x ∷ []) []) ≡ cond b 1 0
length-if true x = refl
length-if false x = refl

length-home : (n : ℕ) (games : List Game) (i s : ℕ) → length (breaks_at_slot n games H i s) ≡ breaks_at n (counts_of games) H i s
length-home n games i s = length-if (is_home_break n (counts_of games) i s) (break_of games H i s)

length-away : (n : ℕ) (games : List Game) (i s : ℕ) → length (breaks_at_slot n games A i s) ≡ breaks_at n (counts_of games) A i s
length-away n games i s = length-if (is_away_break n (counts_of games) i s) (break_of games A i s)

length-breaks_at_slot : (n : ℕ) (games : List Game) (side : Side) (i s : ℕ) → length (breaks_at_slot n games side i s) ≡ breaks_at n (counts_of games) side i s
length-breaks_at_slot n games H i s = length-home n games i s
length-breaks_at_slot n games A i s = length-away n games i s
length-breaks_at_slot n games Both i s =
    length-append (breaks_at_slot n games H i s) (breaks_at_slot n games A i s)
    ∙ ap (λ (x : ℕ). x + length (breaks_at_slot n games A i s)) (length-home n games i s)
    ∙ ap (λ (x : ℕ). breaks_at n (counts_of games) H i s + x) (length-away n games i s)

-- the breaks of a team at some slots
pub length-breaks_of : (n : ℕ) (games : List Game) (side : Side) (slots : List ℕ) (i : ℕ) → length (breaks_of n games side slots i) ≡ breaks_among n (counts_of games) side slots i
length-breaks_of n games side slots i =
    length-flat_map (λ s. breaks_at_slot n games side i s) slots
    ∙ sum_by-same (λ s. length (breaks_at_slot n games side i s)) (λ s. breaks_at n (counts_of games) side i s) (λ s. length-breaks_at_slot n games side i s) slots

-- BR1
pub br1-adds_up : (n : ℕ) (games : List Game) (teams : List ℕ) (intp : ℕ) (side : Side) (slots : List ℕ) (key : ℕ) → key < length teams → missed (reasons_at n games (Br1 teams intp side slots) key) ≡ entry_of n (counts_of games) (Br1 teams intp side slots) key
br1-adds_up n games teams intp side slots key inside =
    let i : ℕ = get_or teams key 0 in
    missed-where key (excess (length (breaks_of n games side slots i)) intp) (Breaks (breaks_of n games side slots i))
    ∙ ap (λ (c : ℕ). excess c intp) (length-breaks_of n games side slots i)
    ∙ sym (get_or-map (λ t. excess (breaks_among n (counts_of games) side slots t) intp) teams key 0 0 inside)

-- BR2
pub br2-adds_up : (n : ℕ) (games : List Game) (teams : List ℕ) (intp : ℕ) (slots : List ℕ) (key : ℕ) → key < 1 → missed (reasons_at n games (Br2 teams intp slots) key) ≡ entry_of n (counts_of games) (Br2 teams intp slots) key
br2-adds_up n games teams intp slots zero inside =
    let all : List Break = flat_map (breaks_of n games Both slots) teams in
    missed-where 0 (excess (length all) intp) (Breaks all)
    ∙ ap (λ (c : ℕ). excess c intp)
    (length-flat_map (breaks_of n games Both slots) teams
    ∙ sum_by-same (λ i. length (breaks_of n games Both slots i)) (breaks_among n (counts_of games) Both slots) (λ i. length-breaks_of n games Both slots i) teams)
br2-adds_up n games teams intp slots (suc key) inside = absurd (omega arith)

-- ---- leads

-- the largest excess is the excess of the largest
largest-excess_from : (f : ℕ → ℕ) (bound a : ℕ) (xs : List ℕ) → fold (λ m x. max m (excess (f x) bound)) (a - bound) xs ≡ fold (λ m x. max m (f x)) a xs - bound
largest-excess_from f bound a [] = refl
largest-excess_from f bound a (x ∷ xs) =
    let both : max (a - bound) (excess (f x) bound) ≡ max a (f x) - bound = omega arith in
    ap (λ (m : ℕ). fold (λ m x. max m (excess (f x) bound)) m xs) both ∙ largest-excess_from f bound (max a (f x)) xs

pub largest-excess : (f : ℕ → ℕ) (bound : ℕ) (xs : List ℕ) → largest (λ x. excess (f x) bound) xs ≡ excess (largest f xs) bound
largest-excess f bound xs =
    let none : 0 ≡ 0 - bound = omega arith in
    ap (λ (m : ℕ). fold (λ m x. max m (excess (f x) bound)) m xs) none ∙ largest-excess_from f bound 0 xs
