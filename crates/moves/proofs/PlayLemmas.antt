-- What a round robin says of two teams in a slot and over the season, in sums over numbers below a bound.
use Rattle.std.proofs.Common.{◌≡◌, ◌≢◌, ℕ, ◌+◌, ◌-◌, ◌<◌, ◌≤◌, Bool, true, [], ◌∷◌, inl, inr, refl, arith, sym, ◌∙◌, ◌↔◌}
use Rattle.std.proofs.lemmas.Bool.{cases_eq, cases_order}
use Rattle.league.specs.Counts.{Counts, slot_count, slots_of}
use Rattle.league.specs.Meetings.{games_of}
use Rattle.league.specs.Structure.{IsPlayedOnce, IsRoundRobin, cells_wrong, first_half, pairs_wrong, phases_wrong}
use Rattle.league.specs.Venues.{games_on}
use Rattle.league.specs.declared.class.Side.TheVariants.{Both}
use Rattle.league.proofs.RoundRobinLemmas.{IsPlayedOnce-of, none_wrong}
use Rattle.moves.proofs.SumLemmas.{OneIsOne, one-of_total, term-le-total, total, total-add}

-- a round robin, with and without counting
counts_are : (n : ℕ) (phased : Bool) (m : Counts) → ((pairs_wrong n m ≡ 0) × (cells_wrong n m ≡ 0) × (phases_wrong n phased m ≡ 0)) ↔ IsPlayedOnce n phased m
counts_are n phased m = none_wrong n phased m (pairs_wrong n m) (cells_wrong n m) (phases_wrong n phased m) refl refl refl

pub IsRoundRobin-of : (n : ℕ) (phased : Bool) (m : Counts) → IsPlayedOnce n phased m → IsRoundRobin n phased m
IsRoundRobin-of n phased m once =
    let none : (pairs_wrong n m ≡ 0) × (cells_wrong n m ≡ 0) × (phases_wrong n phased m ≡ 0) = (counts_are n phased m).1 once in
    record { pairs = none.0; cells = none.1; phases = none.2 }

-- the games of two teams in a slot
abbrev pub met : Counts → ℕ → ℕ → ℕ → ℕ
met m i j s = m i j s + m j i s

-- a round robin in sums
pub record IsPlayed (n : ℕ) (phased : Bool) (m : Counts) : Type 0 where
  pub meetings : (i j : ℕ) → i < n → j < n → i ≢ j → total (λ s. m i j s) (slot_count n) ≡ 1
  pub cells : (i s : ℕ) → i < n → s < slot_count n → total (λ j. met m i j s) n ≡ 1
  pub halves : phased ≡ true → (i j : ℕ) → i < n → j < n → i ≢ j → total (λ s. met m i j s) (n - 1) ≡ 1

half_of : (n : ℕ) (m : Counts) (i j : ℕ) → games_of m ((i, j) ∷ (j, i) ∷ []) (first_half n) ≡ 1 → total (λ s. met m i j s) (n - 1) ≡ 1
half_of n m i j once = omega (arith, total-add (λ s. m i j s) (λ s. m j i s) (n - 1))

turned_half : (n : ℕ) (m : Counts) (i j : ℕ) → total (λ s. met m j i s) (n - 1) ≡ 1 → total (λ s. met m i j s) (n - 1) ≡ 1
turned_half n m i j once = omega (arith, total-add (λ s. m i j s) (λ s. m j i s) (n - 1), total-add (λ s. m j i s) (λ s. m i j s) (n - 1))

pub IsPlayed-of : (n : ℕ) (phased : Bool) (m : Counts) → IsPlayedOnce n phased m → IsPlayed n phased m
IsPlayed-of n phased m once = record {
  meetings = λ i j a b ne. let h : games_of m ((i, j) ∷ []) (slots_of n) ≡ 1 = once.meetings i j a b ne in omega arith;
  cells = λ i s a b. let h : games_on n m Both i s ≡ 1 = once.cells i s a b in omega (arith, total-add (λ j. m i j s) (λ j. m j i s) n);
  halves = λ phases i j a b ne. elim (cases_order i j) as (λ _. total (λ s. met m i j s) (n - 1) ≡ 1) [
    | inl same ↦ absurd (ne same)
    | inr other ↦ elim other as (λ _. total (λ s. met m i j s) (n - 1) ≡ 1) [
      | inl before ↦ half_of n m i j (once.halves phases i j before b)
      | inr after ↦ turned_half n m i j (half_of n m j i (once.halves phases j i after a))
    ]
  ];
}

pub IsPlayedOnce-from : (n : ℕ) (phased : Bool) (m : Counts) → IsPlayed n phased m → IsPlayedOnce n phased m
IsPlayedOnce-from n phased m is = record {
  meetings = λ i j a b ne. let h : total (λ s. m i j s) (slot_count n) ≡ 1 = is.meetings i j a b ne in omega arith;
  cells = λ i s a b. let h : total (λ j. met m i j s) n ≡ 1 = is.cells i s a b in omega (arith, total-add (λ j. m i j s) (λ j. m j i s) n);
  halves = λ phases i j before last.
      let h : total (λ s. met m i j s) (n - 1) ≡ 1 = is.halves phases i j (omega arith) last (λ e. omega arith) in
      omega (arith, total-add (λ s. m i j s) (λ s. m j i s) (n - 1));
}

-- from a round robin and back
pub played : (n : ℕ) (phased : Bool) (m : Counts) → IsRoundRobin n phased m → IsPlayed n phased m
played n phased m is = IsPlayed-of n phased m (IsPlayedOnce-of n phased m is)

pub round_robin : (n : ℕ) (phased : Bool) (m : Counts) → IsPlayed n phased m → IsRoundRobin n phased m
round_robin n phased m is = IsRoundRobin-of n phased m (IsPlayedOnce-from n phased m is)

-- two teams meet at most once in a slot
pub met-le-one : (n : ℕ) (phased : Bool) (m : Counts) (i j s : ℕ) → IsPlayed n phased m → i < n → j < n → s < slot_count n → met m i j s ≤ 1
met-le-one n phased m i j s is a b c =
    let all : total (λ j. met m i j s) n ≡ 1 = is.cells i s a c in
    omega (arith, term-le-total (λ j. met m i j s) n j b)

-- the opponent of a team in a slot
pub opponent : (n : ℕ) (phased : Bool) (m : Counts) (i s : ℕ) → IsPlayed n phased m → i < n → s < slot_count n → OneIsOne (λ j. met m i j s) n
opponent n phased m i s is a b = one-of_total (λ j. met m i j s) n (is.cells i s a b)

-- the slot of a meeting
pub slot : (n : ℕ) (phased : Bool) (m : Counts) (i j : ℕ) → IsPlayed n phased m → i < n → j < n → i ≢ j → OneIsOne (λ s. m i j s) (slot_count n)
slot n phased m i j is a b ne = one-of_total (λ s. m i j s) (slot_count n) (is.meetings i j a b ne)

-- no team meets itself
pub met-itself : (n : ℕ) (phased : Bool) (m : Counts) (i s : ℕ) → IsPlayed n phased m → i < n → s < slot_count n → m i i s ≡ 0
met-itself n phased m i s is a b = omega (arith, met-le-one n phased m i i s is a a b)

-- who meets one team meets no other
pub busy : (n : ℕ) (phased : Bool) (m : Counts) (i j k s : ℕ) → IsPlayed n phased m → i < n → j < n → k < n → s < slot_count n → j ≢ k → 1 ≤ met m i j s → met m i k s ≡ 0
busy n phased m i j k s is a b c d ne some =
    let one : OneIsOne (λ j. met m i j s) n = opponent n phased m i s is a d in
    elim (cases_eq j one.at) as (λ _. met m i k s ≡ 0) [
      | inl same ↦ one.others k c (λ e. ne (same ∙ sym e))
      | inr other ↦ let none : met m i j s ≡ 0 = one.others j b other in absurd (omega arith)
    ]
