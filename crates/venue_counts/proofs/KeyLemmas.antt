-- Two sets of slots with one key are one.
use Rattle.std.proofs.Common.{◌≡◌, ℕ, ◌+◌, ◌-◌, ◌*◌, ◌/◌, ◌^◌, ◌<◌, ◌≤◌, Bool, true, false, cond, List, [], ◌∷◌}
use Rattle.std.proofs.Common.{inl, inr, refl, arith, ap, sym, ◌∙◌}
use Rattle.std.proofs.Math.Nat.{mul-div_cancel_left}
use Rattle.std.proofs.lemmas.Bool.{cases_order}
use Rattle.std.proofs.lemmas.List.Sums.{sum_by-cons}
use Rattle.std.proofs.lemmas.Nat.{pow-add, pow_pos}
use Rattle.league.specs.Counts.{slot_count}
use Rattle.league.specs.Instance.{are_slots, is_one_side}
use Rattle.league.specs.declared.class.Side.{Side}
use Rattle.league.specs.declared.class.Side.TheVariants.{H, A, Both}
use Rattle.encoding.specs.Ascending.{AscendsBy}
use Rattle.encoding.proofs.AscendLemmas.{AscendsBy-low}
use Rattle.encoding.proofs.MeetingOrder.{AreSlots-from_test}
use Rattle.venue_counts.specs.VenueCounts.{is_side}
use Rattle.venue_counts.specs.Keys.{key_of, mask_of}

abbrev Ascend : ℕ → List ℕ → ℕ → Type 0
Ascend low slots high = AscendsBy (λ s. s) low slots high

power-split : (low s : ℕ) → low ≤ s → 2 ^ s ≡ 2 ^ low * 2 ^ (s - low)
power-split low s order =
    let same : s ≡ low + (s - low) = omega (arith, order) in
    ap (λ (k : ℕ). 2 ^ k) same ∙ pow-add 2 low (s - low)

-- slots from low on have a multiple of that bit
multiple : (low : ℕ) (slots : List ℕ) (high : ℕ) → Ascend low slots high → (m : ℕ) × (mask_of slots ≡ 2 ^ low * m)
multiple low [] high ascend = (0, omega arith)
multiple low (s ∷ slots) high ascend =
    let rest = multiple (s + 1) slots high ascend.1 in
    let next : 2 ^ (s + 1) ≡ 2 ^ s * 2 = pow-add 2 s 1 in
    let m : ℕ = 2 ^ (s - low) * (1 + 2 * rest.0) in (
      m,
      omega (
        arith,
        sum_by-cons (λ (t : ℕ). 2 ^ t) s slots,
        rest.1,
        ap (λ (k : ℕ). k * rest.0) next,
        ap (λ (k : ℕ). k * (1 + 2 * rest.0)) (power-split low s ascend.0),
      ),
    )

-- an odd number of times isn't an even number of times
odd_even : (p a b : ℕ) → 0 < p → p + p * 2 * a ≡ p * 2 * b → ⊥
odd_even p a b some same =
    let products : p * (1 + 2 * a) ≡ p * (2 * b) = omega (arith, same) in
    let quotients : 1 + 2 * a ≡ 2 * b =
    sym (mul-div_cancel_left (1 + 2 * a) some) ∙ ap (λ (k : ℕ). k / p) products ∙ mul-div_cancel_left (2 * b) some in
    omega (arith, quotients)

-- a set whose first slot is earlier has another mask
earlier : (x y high : ℕ) (xs ys : List ℕ) → x < y → Ascend (x + 1) xs high → Ascend y (y ∷ ys) high
    → mask_of (x ∷ xs) ≡ mask_of (y ∷ ys) → ⊥
earlier x y high xs ys before first second same =
    let rest = multiple (x + 1) xs high first in
    let other = multiple (x + 1) (y ∷ ys) high
    (AscendsBy-low (λ (s : ℕ). s) (x + 1) y (y ∷ ys) high (omega arith) second) in
    let next : 2 ^ (x + 1) ≡ 2 ^ x * 2 = pow-add 2 x 1 in
    odd_even (2 ^ x) rest.0 other.0 (pow_pos x)
    (omega (
      arith,
      same,
      sum_by-cons (λ (t : ℕ). 2 ^ t) x xs,
      rest.1,
      other.1,
      ap (λ (k : ℕ). k * rest.0) next,
      ap (λ (k : ℕ). k * other.0) next,
    ))

from_itself : (y low high : ℕ) (ys : List ℕ) → Ascend low (y ∷ ys) high → Ascend y (y ∷ ys) high
from_itself y low high ys ascend = (let same : y ≤ y = omega arith in same, ascend.1)

same_mask : (low high : ℕ) (xs ys : List ℕ) → Ascend low xs high → Ascend low ys high → mask_of xs ≡ mask_of ys
    → xs ≡ ys
same_mask low high [] [] first second same = refl
same_mask low high [] (y ∷ ys) first second same =
    absurd (omega (arith, same, sum_by-cons (λ (t : ℕ). 2 ^ t) y ys, pow_pos y))
same_mask low high (x ∷ xs) [] first second same =
    absurd (omega (arith, same, sum_by-cons (λ (t : ℕ). 2 ^ t) x xs, pow_pos x))
same_mask low high (x ∷ xs) (y ∷ ys) first second same =
    elim (cases_order x y) [
      | inl equal ↦
          let first_same : 2 ^ x ≡ 2 ^ y = ap (λ (k : ℕ). 2 ^ k) equal in
          let next : y + 1 ≡ x + 1 = omega (arith, equal) in
          let others : Ascend (x + 1) ys high =
          AscendsBy-low (λ (s : ℕ). s) (x + 1) (y + 1) ys high (omega (arith, equal)) second.1 in
          let rest : xs ≡ ys = same_mask (x + 1) high xs ys first.1 others
          (omega (
            arith,
            same,
            sum_by-cons (λ (t : ℕ). 2 ^ t) x xs,
            sum_by-cons (λ (t : ℕ). 2 ^ t) y ys,
            first_same,
          )) in
          ap (λ (s : ℕ). s ∷ xs) equal ∙ ap (λ (ss : List ℕ). y ∷ ss) rest
      | inr differ ↦ elim differ [
        | inl before ↦ absurd (earlier x y high xs ys before first.1 (from_itself y low high ys second) same)
        | inr after ↦ absurd (earlier y x high ys xs after second.1 (from_itself x low high xs first) (sym same))
      ]
    ]

halves : (a b : ℕ) (s t : Bool) → 2 * a + cond s 1 0 ≡ 2 * b + cond t 1 0 → (a ≡ b) × (s ≡ t)
halves a b true true same = (omega (arith, same), refl)
halves a b true false same = absurd (omega (arith, same))
halves a b false true same = absurd (omega (arith, same))
halves a b false false same = (omega (arith, same), refl)

one_side : (s t : Side) → is_one_side s ≡ true → is_one_side t ≡ true → is_side s H ≡ is_side t H → s ≡ t
one_side H H one other same = refl
one_side A A one other same = refl
one_side H A one other same = absurd (cc)
one_side A H one other same = absurd (cc)
one_side Both t one other same = absurd (cc)
one_side H Both one other same = absurd (cc)
one_side A Both one other same = absurd (cc)

-- one key is one side and one set
pub same_key : (n : ℕ) (s t : Side) (xs ys : List ℕ) → is_one_side s ≡ true → is_one_side t ≡ true
    → are_slots n xs ≡ true → are_slots n ys ≡ true → key_of s xs ≡ key_of t ys → (s ≡ t) × (xs ≡ ys)
same_key n s t xs ys one other fits also same =
    let parts = halves (mask_of xs) (mask_of ys) (is_side s H) (is_side t H) same in (
      one_side s t one other parts.1,
      same_mask 0 (slot_count n) xs ys (AreSlots-from_test n xs fits) (AreSlots-from_test n ys also) parts.0,
    )
