-- Slacks of 64 bits, and what a row comes to literal by literal.
use Rattle.std.proofs.Common.{◌≡◌, ℕ, ◌+◌, ◌-◌, ◌^◌, ◌<◌, ◌≤◌, max, min, ℤ, pos, ◌<ℤ◌, List, length, get_or, take, ap, arith}
use Rattle.std.specs.Int.{saturate_signed, w64}
use Rattle.std.specs.List.{fold, sum_by}
use Rattle.std.proofs.lemmas.Int.{ints}
use Rattle.std.proofs.lemmas.List.Sums.{fold_more}
use Rattle.rows.specs.Literals.{Literal}

-- a slack of 64 bits that is below a coefficient is the slack
pub below_saturated : (slack : ℤ) (most : ℕ) → most ≤ 2 ^ 63 - 1 → saturate_signed w64 slack <ℤ pos most → slack <ℤ pos most
below_saturated slack most fits below = grind (arith, ints)

-- a sum of 64 bits to which the next term comes
pub sum_more : (f : Literal → ℕ) (lits : List Literal) (k : ℕ) (l : Literal) (total more : ℕ) → k < length lits
    → l ≡ get_or lits k l → more ≡ f l → total ≡ min (sum_by f (take k lits)) (2 ^ 64 - 1)
    → min (total + more) (2 ^ 64 - 1) ≡ min (sum_by f (take (k + 1) lits)) (2 ^ 64 - 1)
sum_more f lits k l total more there is more_is so_far =
    let step : sum_by f (take (k + 1) lits) ≡ sum_by f (take k lits) + f (get_or lits k l) =
    fold_more (λ (a : ℕ) (x : Literal). a + f x) 0 lits k l there in
    omega (arith, step, more_is, so_far, ap f is)

-- a greatest number to which the next term comes
pub most_more : (f : Literal → ℕ) (lits : List Literal) (k : ℕ) (l : Literal) (most more : ℕ) → k < length lits
    → l ≡ get_or lits k l → more ≡ f l → most ≡ fold (λ most l. max (f l) most) 0 (take k lits)
    → max more most ≡ fold (λ most l. max (f l) most) 0 (take (k + 1) lits)
most_more f lits k l most more there is more_is so_far =
    let step : fold (λ most l. max (f l) most) 0 (take (k + 1) lits)
    ≡ max (f (get_or lits k l)) (fold (λ most l. max (f l) most) 0 (take k lits)) =
    fold_more (λ (most : ℕ) (x : Literal). max (f x) most) 0 lits k l there in
    omega (arith, step, more_is, so_far, ap f is)
