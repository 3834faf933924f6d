-- No game that a move takes out is put in.
use Rattle.std.proofs.Common.{◌≡◌, ◌≢◌, ℕ, ◌+◌, ◌<◌, ◌≤◌, Bool, true, false, ◌&&◌, ◌||◌, ◌==◌, nat_lt, if◌then◌else◌, ◌⊎◌, inl, inr, refl, arith, ap, sym, ◌∙◌}
use Rattle.std.proofs.lemmas.Bool.{cases_eq, cases_lt, cases_Bool}
use Rattle.std.proofs.lemmas.Bool.Decides.{nat_tests}
use Rattle.league.specs.Counts.{Counts, counts_of, slot_count}
use Rattle.moves.specs.Moves.{do_meet, exchange}
use Rattle.moves.specs.Parts.{AreExchangedBelow, AreTradedBelow}
use Rattle.moves.specs.Places.{IsRound}
use Rattle.moves.specs.Round.{AreApart, Edits, Round, round_counts}
use Rattle.moves.proofs.PlayLemmas.{IsPlayed, busy, met, met-itself, played, slot}
use Rattle.moves.proofs.RoundLemmas.{IsWithin, IsWithin-of}
use Rattle.moves.proofs.SumLemmas.{OneIsOne, exchange-first, exchange-other, exchange-second}

-- a meeting is in at most one of two slots
one_slot : (n : ℕ) (phased : Bool) (m : Counts) (a b s t : ℕ) → IsPlayed n phased m → IsWithin n m → s < slot_count n → t < slot_count n → s ≢ t → (m a b s ≡ 0) ⊎ (m a b t ≡ 0)
one_slot n phased m a b s t is within lt_s lt_t ne =
    let goal : Type 0 = (m a b s ≡ 0) ⊎ (m a b t ≡ 0) in
    elim (cases_lt a n) as (λ _. goal) [
      | inr le ↦ inl (within.home a b s le)
      | inl lt_a ↦ elim (cases_lt b n) as (λ _. goal) [
        | inr le ↦ inl (within.away a b s le)
        | inl lt_b ↦ elim (cases_eq b a) as (λ _. goal) [
          | inl same ↦ inl (ap (λ (b : ℕ). m a b s) same ∙ met-itself n phased m a s is lt_a lt_s)
          | inr differ ↦
              let one : OneIsOne (λ r. m a b r) (slot_count n) = slot n phased m a b is lt_a lt_b (λ e. differ (sym e)) in
              elim (cases_eq s one.at) as (λ _. goal) [
                | inl here ↦ inr (one.others t lt_t (λ e. ne (here ∙ sym e)))
                | inr other ↦ inl (one.others s lt_s other)
              ]
        ]
      ]
    ]

kept_none : (p : Bool) (x y : ℕ) → x ≡ 0 → y ≡ (if p then x else 0) → y ≡ 0
kept_none true x y none e = e ∙ none
kept_none false x y none e = e

not_slot : (p q : Bool) (r s t x y : ℕ) → r ≢ s → r ≢ t → y ≡ (if p && q && ((r == s) || (r == t)) then x else 0) → y ≡ 0
not_slot p q r s t x y not_s not_t e = grind (arith, nat_tests)

pub AreApart-slots : (r : Round) (k : ℕ) (set : ℕ → Bool) (s t : ℕ) (edit : Edits) → IsRound r → s < t → t < slot_count r.n → AreExchangedBelow k set (round_counts r) s t edit → AreApart edit
AreApart-slots r k set s t edit round lt last all a b q =
    let m : Counts = round_counts r in
    let out : ℕ = counts_of edit.out a b q in
    let into : ℕ = counts_of edit.into a b q in
    let p : Bool = nat_lt a k && set a && ((q == s) || (q == t)) in
    let goal : Type 0 = (out ≡ 0) ⊎ (into ≡ 0) in
    let either : (m a b s ≡ 0) ⊎ (m a b t ≡ 0) =
    one_slot r.n r.phased m a b s t (played r.n r.phased m round.round_robin) (IsWithin-of r round.table) (omega arith) last (λ e. omega arith) in
    elim (cases_eq q s) as (λ _. goal) [
      | inl is_s ↦ elim either as (λ _. goal) [
        | inl none ↦ inl (kept_none p (m a b q) out (ap (m a b) is_s ∙ none) (all.out_counts a b q))
        | inr none ↦ inr (kept_none p (m a b (exchange s t q)) into (ap (m a b) (exchange-first s t q is_s) ∙ none) (all.into_counts a b q))
      ]
      | inr not_s ↦ elim (cases_eq q t) as (λ _. goal) [
        | inl is_t ↦ elim either as (λ _. goal) [
          | inl none ↦ inr (kept_none p (m a b (exchange s t q)) into (ap (m a b) (exchange-second s t q is_t) ∙ none) (all.into_counts a b q))
          | inr none ↦ inl (kept_none p (m a b q) out (ap (m a b) is_t ∙ none) (all.out_counts a b q))
        ]
        | inr not_t ↦ inl (not_slot (nat_lt a k) (set a) q s t (m a b q) out not_s not_t (all.out_counts a b q))
      ]
    ]

-- a team meets at most one of two teams in a slot
one_team : (n : ℕ) (phased : Bool) (m : Counts) (i j k q : ℕ) → IsPlayed n phased m → IsWithin n m → i < n → j < n → q < slot_count n → i ≢ j → (met m i k q ≡ 0) ⊎ (met m j k q ≡ 0)
one_team n phased m i j k q is within lt_i lt_j lt_q ne =
    let goal : Type 0 = (met m i k q ≡ 0) ⊎ (met m j k q ≡ 0) in
    elim (cases_lt k n) as (λ _. goal) [
      | inr le ↦ inl (omega (arith, within.away i k q le, within.home k i q le))
      | inl lt_k ↦ elim (cases_eq (met m i k q) 0) as (λ _. goal) [
        | inl none ↦ inl none
        | inr some ↦
            let back : met m k j q ≡ 0 = busy n phased m k i j q is lt_k lt_i lt_j lt_q ne (omega arith) in
            inr (omega (arith, back))
      ]
    ]

first_none : (x y : ℕ) → x + y ≡ 0 → x ≡ 0
first_none x y none = omega arith

second_none : (x y : ℕ) → x + y ≡ 0 → y ≡ 0
second_none x y none = omega arith

other_way : (x y : ℕ) → (x ≡ 0) ⊎ (y ≡ 0) → (y ≡ 0) ⊎ (x ≡ 0)
other_way x y (inl none) = inr none
other_way x y (inr none) = inl none

none_touched : (a b i j : ℕ) → a ≢ i → a ≢ j → b ≢ i → b ≢ j → (((a == i) || (b == i)) || ((a == j) || (b == j))) ≡ true → ⊥
none_touched a b i j p q u v is = grind (arith, nat_tests)

three_true : (x y z : Bool) → (x && y && z) ≡ true → (x ≡ true) × (y ≡ true) × (z ≡ true)
three_true true true true is = (refl, refl, refl)
three_true true true false is = absurd (cc)
three_true true false z is = absurd (cc)
three_true false y z is = absurd (cc)

below : (q n : ℕ) → nat_lt q n ≡ true → q < n
below q n is = grind (arith, nat_tests)

no_meeting : (x y : ℕ) → nat_lt 0 (x + y) ≡ false → (x ≡ 0) × (y ≡ 0)
no_meeting x y none = (grind (arith, nat_tests), grind (arith, nat_tests))

dropped : (p : Bool) (x y : ℕ) → p ≡ false → y ≡ (if p then x else 0) → y ≡ 0
dropped true x y none e = absurd (cc)
dropped false x y none e = e

-- the games of two teams, and those with the teams exchanged
traded_apart : (n : ℕ) (phased : Bool) (m : Counts) (i j a b q : ℕ) → IsPlayed n phased m → IsWithin n m → i < n → j < n
    → q < slot_count n → i ≢ j → (m i j q ≡ 0) × (m j i q ≡ 0)
    → (((a == i) || (b == i)) || ((a == j) || (b == j))) ≡ true
    → (m a b q ≡ 0) ⊎ (m (exchange i j a) (exchange i j b) q ≡ 0)
traded_apart n phased m i j a b q is within lt_i lt_j lt_q ne apart touched =
    let c : ℕ = exchange i j a in
    let d : ℕ = exchange i j b in
    let goal : Type 0 = (m a b q ≡ 0) ⊎ (m c d q ≡ 0) in
    let one : (k : ℕ) → (met m i k q ≡ 0) ⊎ (met m j k q ≡ 0) = λ k. one_team n phased m i j k q is within lt_i lt_j lt_q ne in
    let at_home : (k l x y : ℕ) → a ≡ k → c ≡ l → b ≡ x → d ≡ y → (m k x q ≡ 0) ⊎ (m l y q ≡ 0) → goal =
    λ k l x y e f g h which. elim which as (λ _. goal) [
      | inl none ↦ inl (ap (λ (a : ℕ). m a b q) e ∙ ap (λ (b : ℕ). m k b q) g ∙ none)
      | inr none ↦ inr (ap (λ (c : ℕ). m c d q) f ∙ ap (λ (d : ℕ). m l d q) h ∙ none)
    ] in
    let home : (k : ℕ) → (m i k q ≡ 0) ⊎ (m j k q ≡ 0) = λ k. elim (one k) as (λ _. (m i k q ≡ 0) ⊎ (m j k q ≡ 0)) [
      | inl none ↦ inl (first_none (m i k q) (m k i q) none)
      | inr none ↦ inr (first_none (m j k q) (m k j q) none)
    ] in
    let away : (k : ℕ) → (m k i q ≡ 0) ⊎ (m k j q ≡ 0) = λ k. elim (one k) as (λ _. (m k i q ≡ 0) ⊎ (m k j q ≡ 0)) [
      | inl none ↦ inl (second_none (m i k q) (m k i q) none)
      | inr none ↦ inr (second_none (m j k q) (m k j q) none)
    ] in
    elim (cases_eq a i) as (λ _. goal) [
      | inl a_i ↦ elim (cases_eq b i) as (λ _. goal) [
        | inl b_i ↦ at_home i j i j a_i (exchange-first i j a a_i) b_i (exchange-first i j b b_i) (inl (met-itself n phased m i q is lt_i lt_q))
        | inr b_not_i ↦ elim (cases_eq b j) as (λ _. goal) [
          | inl b_j ↦ at_home i j j i a_i (exchange-first i j a a_i) b_j (exchange-second i j b b_j) (inl apart.0)
          | inr b_not_j ↦ at_home i j b b a_i (exchange-first i j a a_i) refl (exchange-other i j b b_not_i b_not_j) (home b)
        ]
      ]
      | inr a_not_i ↦ elim (cases_eq a j) as (λ _. goal) [
        | inl a_j ↦ elim (cases_eq b i) as (λ _. goal) [
          | inl b_i ↦ at_home j i i j a_j (exchange-second i j a a_j) b_i (exchange-first i j b b_i) (inl apart.1)
          | inr b_not_i ↦ elim (cases_eq b j) as (λ _. goal) [
            | inl b_j ↦ at_home j i j i a_j (exchange-second i j a a_j) b_j (exchange-second i j b b_j) (inl (met-itself n phased m j q is lt_j lt_q))
            | inr b_not_j ↦ at_home j i b b a_j (exchange-second i j a a_j) refl (exchange-other i j b b_not_i b_not_j) (other_way (m i b q) (m j b q) (home b))
          ]
        ]
        | inr a_not_j ↦ elim (cases_eq b i) as (λ _. goal) [
          | inl b_i ↦ at_home a a i j refl (exchange-other i j a a_not_i a_not_j) b_i (exchange-first i j b b_i) (away a)
          | inr b_not_i ↦ elim (cases_eq b j) as (λ _. goal) [
            | inl b_j ↦ at_home a a j i refl (exchange-other i j a a_not_i a_not_j) b_j (exchange-second i j b b_j) (other_way (m a i q) (m a j q) (away a))
            | inr b_not_j ↦ absurd (none_touched a b i j a_not_i a_not_j b_not_i b_not_j touched)
          ]
        ]
      ]
    ]

pub AreApart-teams : (r : Round) (k : ℕ) (set : ℕ → Bool) (i j : ℕ) (edit : Edits) → IsRound r → k ≤ slot_count r.n → i < r.n → j < r.n → i ≢ j → ((q : ℕ) → q < slot_count r.n → set q ≡ true → do_meet (round_counts r) i j q ≡ false) → AreTradedBelow k set (round_counts r) i j edit → AreApart edit
AreApart-teams r k set i j edit round few lt_i lt_j ne apart all a b q =
    let m : Counts = round_counts r in
    let out : ℕ = counts_of edit.out a b q in
    let into : ℕ = counts_of edit.into a b q in
    let touched : Bool = ((a == i) || (b == i)) || ((a == j) || (b == j)) in
    let p : Bool = nat_lt q k && set q && touched in
    let goal : Type 0 = (out ≡ 0) ⊎ (into ≡ 0) in
    elim (cases_Bool p) as (λ _. goal) [
      | inl is ↦
          let parts : (nat_lt q k ≡ true) × (set q ≡ true) × (touched ≡ true) = three_true (nat_lt q k) (set q) touched is in
          let lt_k : q < k = below q k parts.0 in
          let lt_q : q < slot_count r.n = omega (arith, lt_k, few) in
          elim (traded_apart r.n r.phased m i j a b q (played r.n r.phased m round.round_robin) (IsWithin-of r round.table) lt_i lt_j lt_q ne (no_meeting (m i j q) (m j i q) (apart q lt_q parts.1)) parts.2) as (λ _. goal) [
            | inl none ↦ inl (kept_none p (m a b q) out none (all.out_counts a b q))
            | inr none ↦ inr (kept_none p (m (exchange i j a) (exchange i j b) q) into none (all.into_counts a b q))
          ]
      | inr not ↦ inl (dropped p (m a b q) out not (all.out_counts a b q))
    ]
