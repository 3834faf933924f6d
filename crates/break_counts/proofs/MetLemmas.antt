-- In which stretches each two teams meet: in the halves of a phased league, and in every season.
use Rattle.std.proofs.Common.{◌≡◌, ℕ, ◌+◌, ◌-◌, ◌<◌, ◌≤◌, Bool, true, arith, ap}
use Rattle.std.specs.List.{range_with_len, sum_by}
use Rattle.league.specs.Counts.{Counts, slot_count}
use Rattle.league.specs.Structure.{IsPlayedOnce}
use Rattle.rows.proofs.ListLemmas.{sum_by-range-append}
use Rattle.break_counts.specs.BreakCounts.{stretch}
use Rattle.break_counts.proofs.StretchLemmas.{IsMet}

-- each two teams have two games in the season
two_games : (n : ℕ) (phased : Bool) (m : Counts) (i j : ℕ) → IsPlayedOnce n phased m → i < j → j < n
    → sum_by (λ s. m i j s) (range_with_len 0 (slot_count n)) + sum_by (λ s. m j i s) (range_with_len 0 (slot_count n))
    ≡ 2
two_games n phased m i j played order there =
    omega (
      arith,
      played.meetings i j (omega (arith, order, there)) there (λ same. (let never : ⊥ = omega (arith, order, same) in never)),
      played.meetings j i there (omega (arith, order, there)) (λ same. (let never : ⊥ = omega (arith, order, same) in never)),
    )

pub season-met : (n : ℕ) (phased : Bool) (m : Counts) → 2 ≤ n → IsPlayedOnce n phased m
    → IsMet n m (stretch 0 (slot_count n))
season-met n phased m two played = record {
  some = omega (arith, two);
  pairs = λ i j order there. omega (arith, two_games n phased m i j played order there);
  cells = λ i s here below. played.cells i s here (omega (arith, below));
}

pub first_half-met : (n : ℕ) (phased : Bool) (m : Counts) → 2 ≤ n → phased ≡ true → IsPlayedOnce n phased m
    → IsMet n m (stretch 0 (n - 1))
first_half-met n phased m two phases played = record {
  some = omega (arith, two);
  pairs = λ i j order there. omega (arith, played.halves phases i j order there);
  cells = λ i s here below. played.cells i s here (omega (arith, below));
}

pub second_half-met : (n : ℕ) (phased : Bool) (m : Counts) → 2 ≤ n → phased ≡ true → IsPlayedOnce n phased m
    → IsMet n m (stretch (n - 1) (n - 1))
second_half-met n phased m two phases played = record {
  some = omega (arith, two);
  pairs = λ i j order there.
      (let whole : slot_count n ≡ n - 1 + (n - 1) = omega arith in
      let from : 0 + (n - 1) ≡ n - 1 = omega arith in
      let season : (ℕ → ℕ) → ℕ → ℕ = λ g k. sum_by g (range_with_len 0 k) in
      let later : (ℕ → ℕ) → ℕ → ℕ = λ g a. sum_by g (range_with_len a (n - 1)) in
      omega (
        arith,
        two_games n phased m i j played order there,
        played.halves phases i j order there,
        ap (season (λ s. m i j s)) whole,
        ap (season (λ s. m j i s)) whole,
        sum_by-range-append (λ s. m i j s) 0 (n - 1) (n - 1),
        sum_by-range-append (λ s. m j i s) 0 (n - 1) (n - 1),
        ap (later (λ s. m i j s)) from,
        ap (later (λ s. m j i s)) from,
      ));
  cells = λ i s here below. played.cells i s here (omega (arith, below));
}
