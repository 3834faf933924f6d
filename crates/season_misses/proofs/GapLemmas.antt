-- The reasons of SE1 amount to the entry: the mutual games of two teams, in order, are in the slots that the definition
-- of the entry lists.
use Rattle.std.proofs.Common.{◌≡◌, ◌≢◌, ℕ, ◌+◌, ◌<◌, ◌≤◌, zero, suc, ◌&&◌, ◌||◌, ◌==◌, cond, List, [], ◌∷◌, ◌++◌, length, map, get_or, replicate, IsTrue, refl, arith, ap, sym, ◌∙◌, inl, inr}
use Rattle.std.proofs.lemmas.Bool.{cases_lt}
use Rattle.std.proofs.lemmas.Bool.Decides.{nat_tests}
use Rattle.std.proofs.lemmas.List.{get_or-map, length-map}
use Rattle.std.proofs.lemmas.List.Elements.{All-filter, All-map, All-tail}
use Rattle.std.proofs.lemmas.List.Kept.{AllPairs-filter}
use Rattle.std.proofs.lemmas.List.Sums.{sum_by-append, sum_by-cons}
use Rattle.std.specs.List.{All, AllPairs, count_by, filter, flat_map, range_with_len}
use Rattle.std.specs.Ordering.{is_le, nat_cmp, ordering_then}
use Rattle.std.specs.declared.cmp.Ordering.{Ordering}
use Rattle.std.specs.declared.cmp.Ordering.TheVariants.{Less, Equal, Greater}
use Rattle.league.specs.Bounds.{excess}
use Rattle.league.specs.Counts.{counts_of, is_game, slot_count, slots_of}
use Rattle.league.specs.Deviation.{entry_of}
use Rattle.league.specs.Instance.{IsGame}
use Rattle.league.specs.Meetings.{pairs_of}
use Rattle.league.specs.Order.{IsInOrder, game_cmp}
use Rattle.league.specs.Separation.{lacking, mutual_games, se1_entry, slots_between}
use Rattle.league.specs.declared.class.Class.TheVariants.{Se1}
use Rattle.league.specs.declared.game.Game.{Game}
use Rattle.league.proofs.ListLemmas.{flat_map-same}
use Rattle.league.proofs.OneTermLemmas.{sum_by-all_none}
use Rattle.league.proofs.RangeLemmas.{one_if}
use Rattle.league.proofs.SumLemmas.{sum_by-add, sum_by-filter, sum_by-map, sum_by-same_in}
use Rattle.season_misses.specs.Counting.{counts_in_se1}
use Rattle.season_misses.specs.Reasons.{by_gap, neighbours, reasons_at}
use Rattle.season_misses.specs.declared.reason.Cause.TheVariants.{Gap}
use Rattle.season_misses.proofs.LawLemmas.{missed, missed-where}

-- the slots of some games
abbrev slots_in : List Game → List ℕ
slots_in games = map (λ g. g.slot.0) games

-- the reasons of games, each with the next one, amount to what their slots lack
gaps-amount : (key min : ℕ) (games : List Game) → missed (flat_map (by_gap key min) (neighbours games)) ≡ lacking min (slots_in games)
gaps-amount key min [] = refl
gaps-amount key min (g ∷ []) = refl
gaps-amount key min (g ∷ h ∷ games) =
    let rest : missed (flat_map (by_gap key min) (neighbours (h ∷ games))) ≡ lacking min (slots_in (h ∷ games)) = gaps-amount key min (h ∷ games) in
    let amount : ℕ = excess min (slots_between g.slot.0 h.slot.0) in
    sum_by-append (λ reason. reason.amount) (by_gap key min (g, h)) (flat_map (by_gap key min) (neighbours (h ∷ games)))
    ∙ ap (λ (x : ℕ). x + missed (flat_map (by_gap key min) (neighbours (h ∷ games)))) (missed-where key amount (Gap g h))
    ∙ ap (λ (x : ℕ). amount + x) rest

-- ---- an ordered list of numbers, made anew from how often each stands in it

-- how often a number stands in a list
abbrev often : ℕ → List ℕ → ℕ
often s ys = count_by (λ y. y == s) ys

-- the numbers from a on, each as often as it stands in a list
abbrev anew : List ℕ → ℕ → ℕ → List ℕ
anew ys a k = flat_map (λ s. replicate (often s ys) s) (range_with_len a k)

other : (y s : ℕ) → y ≢ s → one_if (y == s) ≡ 0
other y s differ = grind (arith, nat_tests)

itself : (y : ℕ) → one_if (y == y) ≡ 1
itself y = grind (arith, nat_tests)

often-other : (y s : ℕ) (zs : List ℕ) → y ≢ s → often s (y ∷ zs) ≡ often s zs
often-other y s zs differ = omega (arith, sum_by-cons (λ z. one_if (z == s)) y zs, other y s differ)

often-itself : (y : ℕ) (zs : List ℕ) → often y (y ∷ zs) ≡ suc (often y zs)
often-itself y zs = omega (arith, sum_by-cons (λ z. one_if (z == y)) y zs, itself y)

-- a number below all of a list isn't there
often-none : (s : ℕ) (zs : List ℕ) → All (λ z. s < z) zs → often s zs ≡ 0
often-none s zs above = sum_by-all_none (λ z. s < z) (λ z. one_if (z == s)) (λ z lt. other z s (λ same. absurd (omega arith))) zs above

-- from behind a number on, it counts for nothing
anew-skip : (y : ℕ) (zs : List ℕ) (a k : ℕ) → y < a → anew (y ∷ zs) a k ≡ anew zs a k
anew-skip y zs a zero lt = refl
anew-skip y zs a (suc k) lt =
    let differ : y ≢ a = λ same. absurd (omega arith) in
    ap (λ (c : ℕ). replicate c a ++ anew (y ∷ zs) (a + 1) k) (often-other y a zs differ)
    ∙ ap (λ (xs : List ℕ). replicate (often a zs) a ++ xs) (anew-skip y zs (a + 1) k (omega arith))

-- the smallest of a list comes first
anew-first : (y : ℕ) (zs : List ℕ) (a k : ℕ) → a ≤ y → y < a + k → All (λ z. y ≤ z) zs → anew (y ∷ zs) a k ≡ y ∷ anew zs a k
anew-first y zs a zero low high least = absurd (omega arith)
anew-first y zs a (suc k) low high least =
    elim (cases_lt a y) [
      | inl before ↦
          let differ : y ≢ a = λ same. absurd (omega arith) in
          let none : often a zs ≡ 0 = often-none a zs (λ i d lt. let le : y ≤ get_or zs i d = least i d lt in omega arith) in
          let none_either : often a (y ∷ zs) ≡ 0 = often-other y a zs differ ∙ none in
          ap (λ (c : ℕ). replicate c a ++ anew (y ∷ zs) (a + 1) k) none_either
          ∙ anew-first y zs (a + 1) k (omega arith) (omega arith) least
          ∙ sym (ap (λ (c : ℕ). y ∷ (replicate c a ++ anew zs (a + 1) k)) none)
      | inr not_before ↦
          let same : a ≡ y = omega arith in
          let once : often a (y ∷ zs) ≡ suc (often a zs) = ap (λ (s : ℕ). often s (y ∷ zs)) same ∙ often-itself y zs ∙ ap (λ (s : ℕ). suc (often s zs)) (sym same) in
          ap (λ (c : ℕ). replicate c a ++ anew (y ∷ zs) (a + 1) k) once
          ∙ ap (λ (xs : List ℕ). a ∷ (replicate (often a zs) a ++ xs)) (anew-skip y zs (a + 1) k (omega arith))
          ∙ ap (λ (x : ℕ). x ∷ (replicate (often a zs) a ++ anew zs (a + 1) k)) same
    ]

anew-nothing : (a k : ℕ) → anew [] a k ≡ []
anew-nothing a zero = refl
anew-nothing a (suc k) = anew-nothing (a + 1) k

-- a list in order is what it was
anew-same : (ys : List ℕ) (a k : ℕ) → AllPairs (λ x y. x ≤ y) ys → All (λ y. a ≤ y) ys → All (λ y. y < a + k) ys → anew ys a k ≡ ys
anew-same [] a k ordered low high = anew-nothing a k
anew-same (y ∷ zs) a k ordered low high =
    anew-first y zs a k (low 0 0 (omega arith)) (high 0 0 (omega arith)) (λ i d lt. ordered zero (suc i) d (omega arith) (omega arith))
    ∙ ap (λ (xs : List ℕ). y ∷ xs)
    (anew-same zs a k (λ i j d before within. ordered (suc i) (suc j) d (omega arith) (omega arith)) (All-tail (λ z. a ≤ z) y zs low) (All-tail (λ z. z < a + k) y zs high))

-- ---- the mutual games of two teams

-- a game counts once in its slot, whichever is at home
both_ways : (h a s i j t : ℕ) → h ≢ a → one_if ((h == i) && (a == j) && (s == t)) + one_if ((h == j) && (a == i) && (s == t)) ≡ cond (((i == h) && (j == a)) || ((j == h) && (i == a))) (one_if (s == t)) 0
both_ways h a s i j t differ = grind (arith, nat_tests)

mutual-often : (n : ℕ) (games : List Game) (p : ℕ × ℕ) (t : ℕ) → All (IsGame n) games → counts_of games p.0 p.1 t + counts_of games p.1 p.0 t ≡ often t (slots_in (filter (counts_in_se1 p) games))
mutual-often n games p t fit =
    sym (sum_by-add (λ g. one_if (is_game p.0 p.1 t g)) (λ g. one_if (is_game p.1 p.0 t g)) games)
    ∙ sum_by-same_in (λ g. one_if (is_game p.0 p.1 t g) + one_if (is_game p.1 p.0 t g)) (λ g. cond (counts_in_se1 p g) (one_if (g.slot.0 == t)) 0) games
    (λ k d lt. let g : Game = get_or games k d in both_ways g.home.0 g.away.0 g.slot.0 p.0 p.1 t (fit k d lt).differ)
    ∙ sym (sum_by-filter (λ g. one_if (g.slot.0 == t)) (counts_in_se1 p) games)
    ∙ sym (sum_by-map (λ s. one_if (s == t)) (λ g. g.slot.0) (filter (counts_in_se1 p) games))

not_greater : (o p q : Ordering) → IsTrue (is_le (ordering_then (ordering_then o p) q)) → o ≢ Greater
not_greater Less p q le same = cc
not_greater Equal p q le same = cc
not_greater Greater p q le same = cc

greater : (a b : ℕ) → b < a → nat_cmp a b ≡ Greater
greater a b h = grind (arith, nat_tests)

in_slot_order : (g h : Game) → IsTrue (is_le (game_cmp g h)) → g.slot.0 ≤ h.slot.0
in_slot_order g h le =
    elim (cases_lt h.slot.0 g.slot.0) [
      | inl later ↦ absurd (not_greater (nat_cmp g.slot.0 h.slot.0) (nat_cmp g.home.0 h.home.0) (nat_cmp g.away.0 h.away.0) le (greater g.slot.0 h.slot.0 later))
      | inr not_later ↦ not_later
    ]

-- the slots of games in order ascend
slots-ordered : (games : List Game) → IsInOrder games → AllPairs (λ x y. x ≤ y) (slots_in games)
slots-ordered games ordered i j d before within =
    let some : Game = record { home = record { 0 = 0 }; away = record { 0 = 0 }; slot = record { 0 = 0 } } in
    let inside : j < length games = omega (arith, length-map games (λ (g : Game). g.slot.0)) in
    let first : get_or (slots_in games) i d ≡ (get_or games i some).slot.0 = get_or-map (λ (g : Game). g.slot.0) games i some d (omega arith) in
    let second : get_or (slots_in games) j d ≡ (get_or games j some).slot.0 = get_or-map (λ (g : Game). g.slot.0) games j some d inside in
    let le : (get_or games i some).slot.0 ≤ (get_or games j some).slot.0 = in_slot_order (get_or games i some) (get_or games j some) (ordered i j some before inside) in
    omega arith

-- the mutual games of two teams, in order, are in the slots of the definition
pub slots-mutual : (n : ℕ) (games : List Game) (p : ℕ × ℕ) → All (IsGame n) games → IsInOrder games → slots_in (filter (counts_in_se1 p) games) ≡ mutual_games n (counts_of games) p
slots-mutual n games p fit ordered =
    let mutual_ones : List Game = filter (counts_in_se1 p) games in
    let ys : List ℕ = slots_in mutual_ones in
    let fit_ones : All (IsGame n) mutual_ones = All-filter (counts_in_se1 p) (IsGame n) games fit in
    let below : All (λ y. y < 0 + slot_count n) ys =
    All-map (λ y. y < 0 + slot_count n) (λ (g : Game). g.slot.0) mutual_ones (λ k d lt. let is : (get_or mutual_ones k d).slot.0 < slot_count n = (fit_ones k d lt).slot in omega arith) in
    let above : All (λ y. 0 ≤ y) ys = λ k d lt. omega arith in
    let in_order : AllPairs (λ x y. x ≤ y) ys = slots-ordered mutual_ones (AllPairs-filter (λ g h. IsTrue (is_le (game_cmp g h))) (counts_in_se1 p) games ordered) in
    sym (anew-same ys 0 (slot_count n) in_order above below)
    ∙ flat_map-same (λ s. replicate (often s ys) s) (λ s. replicate (counts_of games p.0 p.1 s + counts_of games p.1 p.0 s) s)
    (λ s. ap (λ (c : ℕ). replicate c s) (sym (mutual-often n games p s fit))) (slots_of n)

-- SE1
pub se1-adds_up : (n : ℕ) (games : List Game) (teams : List ℕ) (min key : ℕ) → All (IsGame n) games → IsInOrder games → key < length (pairs_of teams) → missed (reasons_at n games (Se1 teams min) key) ≡ entry_of n (counts_of games) (Se1 teams min) key
se1-adds_up n games teams min key fit ordered inside =
    let p : ℕ × ℕ = get_or (pairs_of teams) key (0, 0) in
    gaps-amount key min (filter (counts_in_se1 p) games)
    ∙ ap (lacking min) (slots-mutual n games p fit ordered)
    ∙ sym (get_or-map (se1_entry n (counts_of games) min) (pairs_of teams) key (0, 0) 0 inside)
