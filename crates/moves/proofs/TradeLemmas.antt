-- The games of two teams in some slots: where they meet early, where they don't meet, and what they trade.
use Rattle.std.proofs.Common.{◌≡◌, ◌≢◌, ℕ, ◌+◌, ◌-◌, ◌<◌, ◌≤◌, Bool, true, false, not, ◌&&◌, ◌||◌, ◌==◌, nat_lt, if◌then◌else◌, ◌⊎◌, inl, inr, List, [], ◌∷◌, ◌++◌, length, replicate, set, get_or, refl, arith, ap, sym, ◌∙◌}
use Rattle.std.proofs.lemmas.Bool.{cases_eq, cases_Bool}
use Rattle.std.proofs.lemmas.Bool.Decides.{nat_tests}
use Rattle.std.proofs.lemmas.List.{get_or-replicate, get_or-set_other, get_or-set_same, length-replicate, length-set}
use Rattle.std.proofs.lemmas.List.Sums.{sum_by_push}
use Rattle.league.specs.Counts.{Counts, counts_of, is_game}
use Rattle.league.specs.Instance.{IsGame}
use Rattle.league.specs.declared.game.Game.{Game}
use Rattle.league.proofs.RangeLemmas.{one_if}
use Rattle.moves.specs.Moves.{do_meet, exchange}
use Rattle.moves.specs.Parts.{early_games}
use Rattle.moves.specs.Places.{is_of}
use Rattle.moves.proofs.OpponentLemmas.{not_opponent-away, not_opponent-home}
use Rattle.moves.proofs.PlayLemmas.{met}
use Rattle.moves.proofs.RoundLemmas.{IsOnly}
use Rattle.moves.proofs.SumLemmas.{term-le-total, total-none}

-- an early slot among these
abbrev IsEarlyMark : ℕ → (ℕ → Bool) → ℕ → Type 0
IsEarlyMark half set s = (s < half) × (set s ≡ true)

kept-true : (b : Bool) (x : ℕ) → b ≡ true → (if b then x else 0) ≡ x
kept-true b x e = rw e refl

at_home : (h s x : ℕ) → s ≡ h → x ≡ (if s == h then 1 else 0) → x ≡ 1
at_home h s x e f = grind (arith, nat_tests)

not_at : (h s x : ℕ) → s ≢ h → x ≡ (if s == h then 1 else 0) → x ≡ 0
not_at h s x e f = grind (arith, nat_tests)

pub early-from : (n : ℕ) (m : Counts) (set : ℕ → Bool) (j k h a : ℕ) → ((s : ℕ) → m j k s ≡ (if s == h then 1 else 0)) → ((s : ℕ) → m k j s ≡ (if s == a then 1 else 0)) → IsEarlyMark (n - 1) set h ⊎ IsEarlyMark (n - 1) set a → 1 ≤ early_games n m set j k
early-from n m set j k h a home away (inl is) =
    omega (arith, term-le-total (λ r. if set r then met m j k r else 0) (n - 1) h is.0, kept-true (set h) (met m j k h) is.1, at_home h h (m j k h) refl (home h))
early-from n m set j k h a home away (inr is) =
    omega (arith, term-le-total (λ r. if set r then met m j k r else 0) (n - 1) a is.0, kept-true (set a) (met m j k a) is.1, at_home a a (m k j a) refl (away a))

no_early : (half : ℕ) (set : ℕ → Bool) (s r : ℕ) → (IsEarlyMark half set s → ⊥) → r < half → set r ≡ true → r ≢ s
no_early half set s r none lt is = λ e. none (omega (arith, lt, e), ap set (sym e) ∙ is)

pub early-none : (n : ℕ) (m : Counts) (set : ℕ → Bool) (j k h a : ℕ) → ((s : ℕ) → m j k s ≡ (if s == h then 1 else 0)) → ((s : ℕ) → m k j s ≡ (if s == a then 1 else 0)) → (IsEarlyMark (n - 1) set h → ⊥) → (IsEarlyMark (n - 1) set a → ⊥) → early_games n m set j k ≡ 0
early-none n m set j k h a home away no_home no_away =
    total-none (λ r. if set r then met m j k r else 0) (n - 1) (λ r lt. elim (cases_Bool (set r)) as (λ _. (if set r then met m j k r else 0) ≡ 0) [
      | inl is ↦
          let x : m j k r ≡ 0 = not_at h r (m j k r) (no_early (n - 1) set h r no_home lt is) (home r) in
          let y : m k j r ≡ 0 = not_at a r (m k j r) (no_early (n - 1) set a r no_away lt is) (away r) in
          kept-true (set r) (met m j k r) is ∙ omega (arith, x, y)
      | inr out ↦ rw out refl
    ])

-- the slots in which two teams don't meet
two_slots : (r h a x y : ℕ) → x ≡ (if r == h then 1 else 0) → y ≡ (if r == a then 1 else 0) → not (nat_lt 0 (x + y)) ≡ (not (r == h) && not (r == a))
two_slots r h a x y p q = grind (arith, nat_tests)

first_fails : (r h a : ℕ) → r ≡ h → false ≡ (not (r == h) && not (r == a))
first_fails r h a e = grind (arith, nat_tests)

second_fails : (r h a : ℕ) → r ≡ a → false ≡ (not (r == h) && not (r == a))
second_fails r h a e = grind (arith, nat_tests)

both_pass : (r h a : ℕ) → r ≢ h → r ≢ a → true ≡ (not (r == h) && not (r == a))
both_pass r h a p q = grind (arith, nat_tests)

pub unmarked_two : (m : Counts) (i j h a k r : ℕ) → h < k → a < k → r < k → ((s : ℕ) → m i j s ≡ (if s == h then 1 else 0)) → ((s : ℕ) → m j i s ≡ (if s == a then 1 else 0)) → get_or (set (set (replicate k true) h false) a false) r false ≡ not (do_meet m i j r)
unmarked_two m i j h a k r lt_h lt_a lt_r home away =
    let xs : List Bool = set (replicate k true) h false in
    let back : (not (r == h) && not (r == a)) ≡ not (do_meet m i j r) = sym (two_slots r h a (m i j r) (m j i r) (home r) (away r)) in
    elim (cases_eq r a) as (λ _. get_or (set xs a false) r false ≡ not (do_meet m i j r)) [
      | inl is ↦
          let within : a < length xs = omega (arith, length-set (replicate k true) h false, length-replicate k true) in
          ap (λ (r : ℕ). get_or (set xs a false) r false) is ∙ get_or-set_same xs a false false within ∙ second_fails r h a is ∙ back
      | inr not_a ↦ get_or-set_other xs a r false false not_a ∙ elim (cases_eq r h) as (λ _. get_or xs r false ≡ not (do_meet m i j r)) [
        | inl is ↦
            let within : h < length (replicate k true) = omega (arith, length-replicate k true) in
            ap (λ (r : ℕ). get_or xs r false) is ∙ get_or-set_same (replicate k true) h false false within ∙ first_fails r h a is ∙ back
        | inr not_h ↦ get_or-set_other (replicate k true) h r false false not_h ∙ get_or-replicate k r true false lt_r ∙ both_pass r h a not_h not_a ∙ back
      ]
    ]

-- a game of team i that is taken out
trade_out : (h w t i s a b r x : ℕ) → (((h == i) || (w == i)) && (t == s)) ≡ true → (if (a == i) || (b == i) then x else 0) ≡ (if (h == a) && (w == b) && (t == s) then 1 else 0) → one_if ((h == a) && (w == b) && (t == r)) ≡ (if (r == s) && ((a == i) || (b == i)) then x else 0)
trade_out h w t i s a b r x of only = grind (arith, nat_tests)

pub trade-out : (m : Counts) (i s : ℕ) (old : List Game) (g : Game) → is_of i s g ≡ true → IsOnly m i s g → (a b r : ℕ) → counts_of (old ++ g ∷ []) a b r ≡ counts_of old a b r + (if (r == s) && ((a == i) || (b == i)) then m a b s else 0)
trade-out m i s old g of only a b r =
    sum_by_push (λ x. one_if (is_game a b r x)) old g
    ∙ ap (λ (x : ℕ). counts_of old a b r + x) (trade_out g.home.0 g.away.0 g.slot.0 i s a b r (m a b s) of (only a b))

exchange-is_first : (i j a : ℕ) → (exchange i j a == i) ≡ (a == j)
exchange-is_first i j a = grind (arith, nat_tests)

exchange-is_other : (i j a w : ℕ) → w ≢ i → w ≢ j → (w == exchange i j a) ≡ (w == a)
exchange-is_other i j a w p q = grind (arith, nat_tests)

exchange-from_first : (i j a h : ℕ) → h ≡ i → (h == exchange i j a) ≡ (a == j)
exchange-from_first i j a h e = grind (arith, nat_tests)

retest : (p p' q q' u u' v v' c : Bool) (x : ℕ) → p ≡ p' → q ≡ q' → u ≡ u' → v ≡ v' → (if p || q then x else 0) ≡ (if u && v && c then 1 else 0) → (if p' || q' then x else 0) ≡ (if u' && v' && c then 1 else 0)
retest p p' q q' u u' v v' c x a b d e h = cc

into_home : (j w t s a b r x h' w' t' : ℕ) → w ≢ j → t ≡ s → h' ≡ j → w' ≡ w → t' ≡ t → (if (a == j) || (b == j) then x else 0) ≡ (if (a == j) && (w == b) && (t == s) then 1 else 0) → one_if ((h' == a) && (w' == b) && (t' == r)) ≡ (if (r == s) && ((a == j) || (b == j)) then x else 0)
into_home j w t s a b r x h' w' t' ne slot p q u only = grind (arith, nat_tests)

into_away : (j h t s a b r x h' w' t' : ℕ) → h ≢ j → t ≡ s → h' ≡ h → w' ≡ j → t' ≡ t → (if (a == j) || (b == j) then x else 0) ≡ (if (h == a) && (b == j) && (t == s) then 1 else 0) → one_if ((h' == a) && (w' == b) && (t' == r)) ≡ (if (r == s) && ((a == j) || (b == j)) then x else 0)
into_away j h t s a b r x h' w' t' ne slot p q u only = grind (arith, nat_tests)

slot_is : (h w t i s : ℕ) → (((h == i) || (w == i)) && (t == s)) ≡ true → t ≡ s
slot_is h w t i s is = grind (arith, nat_tests)

other_is : (h w t i s : ℕ) → h ≢ i → (((h == i) || (w == i)) && (t == s)) ≡ true → w ≡ i
other_is h w t i s ne is = grind (arith, nat_tests)

if_same : (h i x y : ℕ) → h ≡ i → (if h == i then x else y) ≡ x
if_same h i x y e = grind (arith, nat_tests)

if_other : (h i x y : ℕ) → h ≢ i → (if h == i then x else y) ≡ y
if_other h i x y e = grind (arith, nat_tests)

-- a game of team i is put in with team j in i's place
pub trade-into : (n : ℕ) (m : Counts) (i j s : ℕ) (old : List Game) (g g' : Game) → IsGame n g → is_of i s g ≡ true
    → IsOnly m i s g → do_meet m i j s ≡ false → g'.home.0 ≡ (if g.home.0 == i then j else g.home.0)
    → g'.away.0 ≡ (if g.home.0 == i then g.away.0 else j) → g'.slot.0 ≡ g.slot.0 → (a b r : ℕ)
    → counts_of (old ++ g' ∷ []) a b r
    ≡ counts_of old a b r + (if (r == s) && ((a == j) || (b == j)) then m (exchange i j a) (exchange i j b) s else 0)
trade-into n m i j s old g g' fits of only apart home away slot a b r =
    let h : ℕ = g.home.0 in
    let w : ℕ = g.away.0 in
    let t : ℕ = g.slot.0 in
    let c : ℕ = exchange i j a in
    let d : ℕ = exchange i j b in
    let added : one_if (is_game a b r g') ≡ (if (r == s) && ((a == j) || (b == j)) then m c d s else 0) =
    elim (cases_eq h i) as (λ _. one_if (is_game a b r g') ≡ (if (r == s) && ((a == j) || (b == j)) then m c d s else 0)) [
      | inl here ↦
          let ne_j : w ≢ j = λ e. not_opponent-away n m i j s g fits of only here apart (sym e) in
          let ne_i : w ≢ i = λ e. fits.differ (here ∙ sym e) in
          into_home j w t s a b r (m c d s) g'.home.0 g'.away.0 g'.slot.0 ne_j (slot_is h w t i s of)
          (home ∙ if_same h i j h here) (away ∙ if_same h i w j here) slot
          (retest (c == i) (a == j) (d == i) (b == j) (h == c) (a == j) (w == d) (w == b) (t == s) (m c d s)
          (exchange-is_first i j a) (exchange-is_first i j b) (exchange-from_first i j a h here) (exchange-is_other i j b w ne_i ne_j) (only c d))
      | inr out ↦
          let ne_j : h ≢ j = λ e. not_opponent-home n m i j s g fits of only out apart (sym e) in
          let is_w : w ≡ i = other_is h w t i s out of in
          into_away j h t s a b r (m c d s) g'.home.0 g'.away.0 g'.slot.0 ne_j (slot_is h w t i s of)
          (home ∙ if_other h i j h out) (away ∙ if_other h i w j out) slot
          (retest (c == i) (a == j) (d == i) (b == j) (h == c) (h == a) (w == d) (b == j) (t == s) (m c d s)
          (exchange-is_first i j a) (exchange-is_first i j b) (exchange-is_other i j a h out ne_j) (exchange-from_first i j b w is_w) (only c d))
    ] in
    sum_by_push (λ x. one_if (is_game a b r x)) old g' ∙ ap (λ (x : ℕ). counts_of old a b r + x) added
