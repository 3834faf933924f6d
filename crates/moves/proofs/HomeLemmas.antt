-- Exchanging the venues of two teams always leads to a round robin.
use Rattle.std.proofs.Common.{◌≡◌, ◌≢◌, ℕ, ◌+◌, ◌-◌, ◌<◌, ◌≤◌, Bool, true, false, ◌&&◌, ◌||◌, ◌==◌, if◌then◌else◌, ◌⊎◌, inl, inr, [], refl, arith, ap, subst, sym, ◌∙◌}
use Rattle.std.proofs.lemmas.Bool.{cases_eq, cases_lt}
use Rattle.std.proofs.lemmas.Bool.Decides.{nat_tests}
use Rattle.league.specs.Counts.{Counts, counts_of, slot_count}
use Rattle.moves.specs.Moves.{game, turned}
use Rattle.moves.specs.Outcome.{IsEditOf}
use Rattle.moves.specs.Places.{IsRound}
use Rattle.moves.specs.Round.{AreApart, Edits, IsEdit, Round, round_counts}
use Rattle.moves.specs.declared.swap.Swap.TheVariants.{HomeSwap}
use Rattle.moves.proofs.LegalLemmas.{IsEditOf-outcome, IsOutcome-done, if_zero, times_of}
use Rattle.moves.proofs.PlayLemmas.{IsPlayed, met, met-le-one, played}
use Rattle.moves.proofs.RoundLemmas.{IsWithin, IsWithin-of}
use Rattle.moves.proofs.SlotLaw.{one_of, under_test}
use Rattle.moves.proofs.SumLemmas.{total, total-same}

-- whether these are the two teams, in either order
abbrev pub are_two : ℕ → ℕ → ℕ → ℕ → Bool
are_two i j a b = ((a == i) && (b == j)) || ((a == j) && (b == i))

-- the counts with the venues of two teams exchanged
abbrev pub venues_exchanged : ℕ → ℕ → Counts → Counts
venues_exchanged i j m a b r = if are_two i j a b then m b a r else m a b r

pub either_order : (i j a b : ℕ) → are_two i j a b ≡ are_two i j b a
either_order i j a b = grind (arith, nat_tests)

same_sum : (p q : Bool) (x y : ℕ) → p ≡ q → (if p then y else x) + (if q then x else y) ≡ x + y
same_sum true true x y e = omega arith
same_sum false false x y e = refl
same_sum true false x y e = absurd (cc)
same_sum false true x y e = absurd (cc)

met-venues : (i j : ℕ) (m : Counts) (a b r : ℕ) → met (venues_exchanged i j m) a b r ≡ met m a b r
met-venues i j m a b r = same_sum (are_two i j a b) (are_two i j b a) (m a b r) (m b a r) (either_order i j a b)

IsPlayed-venues : (n : ℕ) (phased : Bool) (m : Counts) (i j : ℕ) → IsPlayed n phased m → IsPlayed n phased (venues_exchanged i j m)
IsPlayed-venues n phased m i j is = record {
  meetings = λ a b lt_a lt_b ne.
      under_test (are_two i j a b) (λ r. m b a r) (λ r. m a b r) (slot_count n)
      ∙ one_of (are_two i j a b) (total (λ r. m b a r) (slot_count n)) (total (λ r. m a b r) (slot_count n)) (is.meetings b a lt_b lt_a (λ e. ne (sym e))) (is.meetings a b lt_a lt_b ne);
  cells = λ a r lt_a lt_r. total-same (λ b. met (venues_exchanged i j m) a b r) (λ b. met m a b r) n (λ b lt. met-venues i j m a b r) ∙ is.cells a r lt_a lt_r;
  halves = λ phases a b lt_a lt_b ne. total-same (λ r. met (venues_exchanged i j m) a b r) (λ r. met m a b r) (n - 1) (λ r lt. met-venues i j m a b r) ∙ is.halves phases a b lt_a lt_b ne;
}

IsWithin-venues : (n : ℕ) (m : Counts) (i j : ℕ) → IsWithin n m → IsWithin n (venues_exchanged i j m)
IsWithin-venues n m i j within = record {
  home = λ a b r le. if_zero (are_two i j a b) (m b a r) (m a b r) (within.away b a r le) (within.home a b r le);
  away = λ a b r le. if_zero (are_two i j a b) (m b a r) (m a b r) (within.home b a r le) (within.away a b r le);
  slot = λ a b r le. if_zero (are_two i j a b) (m b a r) (m a b r) (within.slot b a r le) (within.slot a b r le);
}

-- what turning the game of a home team and an away team adds
pub record IsTurn (m : Counts) (home away : ℕ) (old new : Edits) : Type 0 where
  pub out : (a b r : ℕ) → counts_of new.out a b r ≡ counts_of old.out a b r + (if (a == home) && (b == away) then m home away r else 0)
  pub into : (a b r : ℕ) → counts_of new.into a b r ≡ counts_of old.into a b r + (if (a == away) && (b == home) then m home away r else 0)

turned_counts : (a b i j x y p q out into : ℕ) → i ≢ j → (a ≡ i → b ≡ j → (x ≡ p) × (y ≡ q))
    → (a ≡ j → b ≡ i → (x ≡ q) × (y ≡ p))
    → out ≡ (if (a == i) && (b == j) then p else 0) + (if (a == j) && (b == i) then q else 0)
    → into ≡ (if (a == j) && (b == i) then p else 0) + (if (a == i) && (b == j) then q else 0)
    → (if ((a == i) && (b == j)) || ((a == j) && (b == i)) then y else x) + out ≡ x + into
turned_counts a b i j x y p q out into ne first second e f = grind (arith, nat_tests)

turned_there : (a b i j x p q out : ℕ) → i ≢ j → (a ≡ i → b ≡ j → x ≡ p) → (a ≡ j → b ≡ i → x ≡ q) → out ≡ (if (a == i) && (b == j) then p else 0) + (if (a == j) && (b == i) then q else 0) → out ≤ x
turned_there a b i j x p q out ne first second e = grind (arith, nat_tests)

pair_at : (m : Counts) (a b i j r : ℕ) → a ≡ i → b ≡ j → m a b r ≡ m i j r
pair_at m a b i j r p q = ap (λ (a : ℕ). m a b r) p ∙ ap (λ (b : ℕ). m i b r) q

IsEdit-venues : (n : ℕ) (m : Counts) (i j : ℕ) (mid new : Edits) → i ≢ j → IsTurn m i j (record { n = n; out = []; into = [] }) mid → IsTurn m j i mid new → IsEdit m (venues_exchanged i j m) new
IsEdit-venues n m i j mid new ne first second =
    let out : (a b r : ℕ) → counts_of new.out a b r ≡ (if (a == i) && (b == j) then m i j r else 0) + (if (a == j) && (b == i) then m j i r else 0) =
    λ a b r. let e = first.out a b r in let f = second.out a b r in omega arith in
    let into : (a b r : ℕ) → counts_of new.into a b r ≡ (if (a == j) && (b == i) then m i j r else 0) + (if (a == i) && (b == j) then m j i r else 0) =
    λ a b r. let e = first.into a b r in let f = second.into a b r in omega arith in
    record {
      there = λ a b r. turned_there a b i j (m a b r) (m i j r) (m j i r) (counts_of new.out a b r) ne (pair_at m a b i j r) (pair_at m a b j i r) (out a b r);
      moves = λ a b r.
          turned_counts a b i j (m a b r) (m b a r) (m i j r) (m j i r) (counts_of new.out a b r) (counts_of new.into a b r) ne
          (λ p q. (pair_at m a b i j r p q, pair_at m b a j i r q p)) (λ p q. (pair_at m a b j i r p q, pair_at m b a i j r q p)) (out a b r) (into a b r);
    }

turned_apart : (a b i j p q out into : ℕ) → i ≢ j → (p ≡ 0) ⊎ (q ≡ 0) → out ≡ (if (a == i) && (b == j) then p else 0) + (if (a == j) && (b == i) then q else 0) → into ≡ (if (a == j) && (b == i) then p else 0) + (if (a == i) && (b == j) then q else 0) → (out ≡ 0) ⊎ (into ≡ 0)
turned_apart a b i j p q out into ne (inl none) e f = elim (cases_eq a i) as (λ _. (out ≡ 0) ⊎ (into ≡ 0)) [
  | inl is ↦ inl (grind (arith, nat_tests))
  | inr not ↦ inr (grind (arith, nat_tests))
]
turned_apart a b i j p q out into ne (inr none) e f = elim (cases_eq a i) as (λ _. (out ≡ 0) ⊎ (into ≡ 0)) [
  | inl is ↦ inr (grind (arith, nat_tests))
  | inr not ↦ inl (grind (arith, nat_tests))
]

-- two teams have no two games in a slot
one_venue : (n : ℕ) (phased : Bool) (m : Counts) (i j r : ℕ) → IsPlayed n phased m → IsWithin n m → i < n → j < n → (m i j r ≡ 0) ⊎ (m j i r ≡ 0)
one_venue n phased m i j r is within lt_i lt_j = elim (cases_lt r (slot_count n)) as (λ _. (m i j r ≡ 0) ⊎ (m j i r ≡ 0)) [
  | inl lt ↦
      let few : met m i j r ≤ 1 = met-le-one n phased m i j r is lt_i lt_j lt in
      elim (cases_eq (m i j r) 0) as (λ _. (m i j r ≡ 0) ⊎ (m j i r ≡ 0)) [
        | inl none ↦ inl none
        | inr some ↦ inr (omega (arith, few))
      ]
  | inr le ↦ inl (within.slot i j r le)
]

AreApart-venues : (n : ℕ) (phased : Bool) (m : Counts) (i j : ℕ) (mid new : Edits) → IsPlayed n phased m → IsWithin n m → i < j → j < n → IsTurn m i j (record { n = n; out = []; into = [] }) mid → IsTurn m j i mid new → AreApart new
AreApart-venues n phased m i j mid new is within lt last first second a b r =
    turned_apart a b i j (m i j r) (m j i r) (counts_of new.out a b r) (counts_of new.into a b r) (λ e. omega arith)
    (one_venue n phased m i j r is within (omega arith) last)
    (let e = first.out a b r in let f = second.out a b r in omega arith)
    (let e = first.into a b r in let f = second.into a b r in omega arith)

pub home_swap-done : (r : Round) (i j : ℕ) (old mid new : Edits) → IsRound r → i < j → j < r.n
    → old ≡ record { n = r.n; out = []; into = [] } → new.n ≡ r.n → IsTurn (round_counts r) i j old mid
    → IsTurn (round_counts r) j i mid new
    → IsEditOf r.n r.phased (round_counts r) (HomeSwap (record { 0 = i }) (record { 0 = j })) true new
home_swap-done r i j old mid new round lt last empty same first second =
    let m : Counts = round_counts r in
    let P : Edits → Type 0 = λ old. IsTurn m i j old mid in
    IsEditOf-outcome r.n r.phased m (venues_exchanged i j m) (HomeSwap (record { 0 = i }) (record { 0 = j })) true new
    (IsOutcome-done r.n r.phased m (venues_exchanged i j m) new same
    (IsEdit-venues r.n m i j mid new (λ e. omega arith) (subst P empty first) second)
    (AreApart-venues r.n r.phased m i j mid new (played r.n r.phased m round.round_robin) (IsWithin-of r round.table) lt last (subst P empty first) second)
    (IsPlayed-venues r.n r.phased m i j (played r.n r.phased m round.round_robin))
    (IsWithin-venues r.n m i j (IsWithin-of r round.table)))
    lt
    (λ a b s. sym (times_of m (are_two i j a b) (turned (game a b s)) (game a b s)))
