-- The parts of a class that fits a league fit it, too.
use Rattle.std.proofs.Common.{◌≡◌, ℕ, zero, suc, ◌+◌, ◌-◌, ◌<◌, ◌≤◌, true, ◌&&◌, nat_lt, List, [], ◌∷◌}
use Rattle.std.proofs.Common.{get_or, refl, arith, ◌∙◌}
use Rattle.std.proofs.lemmas.Bool.{and_from, and_parts, lt-ltb}
use Rattle.std.proofs.lemmas.List.Elements.{All-cons, All-map, All-nil}
use Rattle.std.proofs.lemmas.List.Folds.{list_all-map}
use Rattle.std.proofs.lemmas.List.Sums.{AllPass-from_list_all}
use Rattle.std.specs.List.{All, list_all, range_with_len}
use Rattle.std.specs.Ordering.{is_lt, nat_cmp}
use Rattle.league.specs.Capacity.{windows_of}
use Rattle.league.specs.Counts.{slot_count}
use Rattle.league.specs.Deviation.{spans}
use Rattle.league.specs.Instance.{are_slots, are_teams, class_fits, is_one_side}
use Rattle.league.specs.Meetings.{pairs_of}
use Rattle.league.specs.Sets.{ascends}
use Rattle.league.specs.declared.class.Class.{Class}
use Rattle.league.specs.declared.class.Class.TheVariants.{Ca1, Ca2, Ca3, Ca4, Ga1, Br1, Br2, Fa2, Se1}
use Rattle.league.specs.declared.class.Span.{Span}
use Rattle.league.specs.declared.class.Span.TheVariants.{Global, Every}
use Rattle.league.proofs.FitLemmas.{are_slots-below, are_teams-below}
use Rattle.league.proofs.OneTermLemmas.{All-flat_map}
use Rattle.league.proofs.NumberSets.{is_before}
use Rattle.rows.proofs.ListLemmas.{list_all-range}
use Rattle.encoding.proofs.MeetingOrder.{AreTeams-from_test, pairs_of-in_order}
use Rattle.bound_rows.specs.Parts.{ca3_parts, parts_of, se1_parts}

-- a part that fits
abbrev pub Fits : ℕ → Class → Type 0
Fits n part = class_fits n part ≡ true

one_team : (n i : ℕ) → i < n → are_teams n (i ∷ []) ≡ true
one_team n i team = and_from (nat_lt i n && true) true (and_from (nat_lt i n) true (lt-ltb i n team) refl) refl

one_slot : (n s : ℕ) → s < slot_count n → are_slots n (s ∷ []) ≡ true
one_slot n s slot =
    and_from (nat_lt s (slot_count n) && true) true
    (and_from (nat_lt s (slot_count n)) true (lt-ltb s (slot_count n) slot) refl) refl

pub two_teams : (n i j : ℕ) → i < j → j < n → are_teams n (i ∷ j ∷ []) ≡ true
two_teams n i j order within =
    and_from (nat_lt i n && (nat_lt j n && true)) ((is_lt (nat_cmp i j) && true) && true)
    (and_from (nat_lt i n) (nat_lt j n && true) (lt-ltb i n (omega arith))
    (and_from (nat_lt j n) true (lt-ltb j n within) refl))
    (and_from (is_lt (nat_cmp i j) && true) true (and_from (is_lt (nat_cmp i j)) true (is_before i j order) refl) refl)

range_ascends : (a k : ℕ) → ascends nat_cmp (range_with_len a k) ≡ true
range_ascends a zero = refl
range_ascends a (suc k) =
    and_from (list_all (λ y. is_lt (nat_cmp a y)) (range_with_len (a + 1) k))
    (ascends nat_cmp (range_with_len (a + 1) k))
    (list_all-range (λ y. is_lt (nat_cmp a y)) (a + 1) k (λ y from within. is_before a y (omega arith)))
    (range_ascends (a + 1) k)

window : (n a k : ℕ) → a + k ≤ slot_count n → are_slots n (range_with_len a k) ≡ true
window n a k inside =
    and_from (list_all (λ s. nat_lt s (slot_count n)) (range_with_len a k)) (ascends nat_cmp (range_with_len a k))
    (list_all-range (λ s. nat_lt s (slot_count n)) a k
    (λ s from within. lt-ltb s (slot_count n) (omega arith)))
    (range_ascends a k)

windows : (n intp : ℕ) → list_all (are_slots n) (windows_of n intp) ≡ true
windows n intp =
    list_all-map (are_slots n) (λ first. range_with_len first intp) (range_with_len 0 (slot_count n + 1 - intp))
    ∙ list_all-range (λ first. are_slots n (range_with_len first intp)) 0 (slot_count n + 1 - intp)
    (λ first from within. window n first intp (omega arith))

spans_fit : (n : ℕ) (span : Span) (slots : List ℕ) → are_slots n slots ≡ true
    → All (λ part. are_slots n part ≡ true) (spans span slots)
spans_fit n Global slots fit =
    All-cons (λ part. are_slots n part ≡ true) slots [] fit (All-nil (λ part. are_slots n part ≡ true))
spans_fit n Every slots fit =
    All-map (λ part. are_slots n part ≡ true) (λ s. s ∷ []) slots
    (λ k d within. one_slot n (get_or slots k d) (are_slots-below n slots fit k d within))

pub fits-parts : (n : ℕ) (class : Class) → class_fits n class ≡ true → All (Fits n) (parts_of n class)
fits-parts n (Ca1 teams min max side slots) fits =
    let both = and_parts (are_teams n teams && are_slots n slots) (is_one_side side) fits in
    let sets = and_parts (are_teams n teams) (are_slots n slots) both.0 in
    All-map (Fits n) (λ i. Ca1 (i ∷ []) min max side slots) teams
    (λ k d within.
    let i : ℕ = get_or teams k d in
    and_from (are_teams n (i ∷ []) && are_slots n slots) (is_one_side side)
    (and_from (are_teams n (i ∷ [])) (are_slots n slots) (one_team n i (are_teams-below n teams sets.0 k d within))
    sets.1) both.1)
fits-parts n (Ca2 teams1 teams2 min max side slots) fits =
    let both = and_parts (are_teams n teams1 && are_teams n teams2) (are_slots n slots) fits in
    let sets = and_parts (are_teams n teams1) (are_teams n teams2) both.0 in
    All-map (Fits n) (λ i. Ca2 (i ∷ []) teams2 min max side slots) teams1
    (λ k d within.
    let i : ℕ = get_or teams1 k d in
    and_from (are_teams n (i ∷ []) && are_teams n teams2) (are_slots n slots)
    (and_from (are_teams n (i ∷ [])) (are_teams n teams2) (one_team n i (are_teams-below n teams1 sets.0 k d within))
    sets.1) both.1)
fits-parts n (Ca3 teams1 teams2 min max intp side) fits =
    let both = and_parts (are_teams n teams1 && are_teams n teams2) (nat_lt 0 intp) fits in
    let sets = and_parts (are_teams n teams1) (are_teams n teams2) both.0 in
    All-flat_map (Fits n) (ca3_parts n teams2 min max intp side) teams1
    (λ k d within.
    let i : ℕ = get_or teams1 k d in
    All-map (Fits n) (Ca2 (i ∷ []) teams2 min max side) (windows_of n intp)
    (λ l e inside.
    let slots : List ℕ = get_or (windows_of n intp) l e in
    and_from (are_teams n (i ∷ []) && are_teams n teams2) (are_slots n slots)
    (and_from (are_teams n (i ∷ [])) (are_teams n teams2) (one_team n i (are_teams-below n teams1 sets.0 k d within))
    sets.1) (AllPass-from_list_all (are_slots n) (windows_of n intp) (windows n intp) l e inside)))
fits-parts n (Ca4 teams1 teams2 min max side span slots) fits =
    let both = and_parts (are_teams n teams1 && are_teams n teams2) (are_slots n slots) fits in
    All-map (Fits n) (Ca4 teams1 teams2 min max side Global) (spans span slots)
    (λ k d within.
    and_from (are_teams n teams1 && are_teams n teams2) (are_slots n (get_or (spans span slots) k d)) both.0
    (spans_fit n span slots both.1 k d within))
fits-parts n (Ga1 meetings min max slots) fits =
    All-cons (Fits n) (Ga1 meetings min max slots) [] fits (All-nil (Fits n))
fits-parts n (Br1 teams intp side slots) fits =
    let both = and_parts (are_teams n teams) (are_slots n slots) fits in
    All-map (Fits n) (λ i. Br1 (i ∷ []) intp side slots) teams
    (λ k d within.
    let i : ℕ = get_or teams k d in
    and_from (are_teams n (i ∷ [])) (are_slots n slots) (one_team n i (are_teams-below n teams both.0 k d within))
    both.1)
fits-parts n (Br2 teams intp slots) fits =
    All-cons (Fits n) (Br2 teams intp slots) [] fits (All-nil (Fits n))
fits-parts n (Fa2 teams intp slots) fits =
    let both = and_parts (are_teams n teams) (are_slots n slots) fits in
    All-map (Fits n) (λ p. Fa2 (p.0 ∷ p.1 ∷ []) intp slots) (pairs_of teams)
    (λ k d within.
    let p : ℕ × ℕ = get_or (pairs_of teams) k d in
    let order = pairs_of-in_order n 0 teams (AreTeams-from_test n teams both.0) k d within in
    and_from (are_teams n (p.0 ∷ p.1 ∷ [])) (are_slots n slots) (two_teams n p.0 p.1 order.0 order.1) both.1)
fits-parts n (Se1 teams min) fits =
    All-flat_map (Fits n) (se1_parts min) (pairs_of teams)
    (λ k d within.
    let p : ℕ × ℕ = get_or (pairs_of teams) k d in
    let order = pairs_of-in_order n 0 teams (AreTeams-from_test n teams fits) k d within in
    All-map (Fits n) (λ u. Se1 (p.0 ∷ p.1 ∷ []) (min + 1 - u)) (range_with_len 1 min)
    (λ l e inside. two_teams n p.0 p.1 order.0 order.1))
