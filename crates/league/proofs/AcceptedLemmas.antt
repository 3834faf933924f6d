-- Whether a schedule meets the hard constraints, by the sum of their deviations.
use Rattle.std.proofs.Common.{◌≡◌, ℕ, List, get_or, arith}
use Rattle.std.proofs.lemmas.List.Sums.{get_or-le-sum_by, sum_by-le}
use Rattle.std.specs.List.{All, sum_by}
use Rattle.league.specs.Accepted.{MeetsHard, hard_of}
use Rattle.league.specs.Counts.{Counts}
use Rattle.league.specs.Deviation.{deviation_of, vector_of}
use Rattle.league.specs.Instance.{Instance}

-- where a sum is 0, each of its terms is
pub All-from_sum_zero : {X : Type 0} (f : X → ℕ) (xs : List X) → sum_by f xs ≡ 0 → All (λ x. f x ≡ 0) xs
All-from_sum_zero f xs h = λ k d lt. omega (arith, get_or-le-sum_by f xs k d lt)

-- where each term is 0, the sum is
pub sum_zero-from_All : {X : Type 0} (f : X → ℕ) (xs : List X) → All (λ x. f x ≡ 0) xs → sum_by f xs ≡ 0
sum_zero-from_All f xs h = omega (arith, sum_by-le f 0 xs (λ k d lt. omega (arith, h k d lt)))

-- a schedule meets the hard constraints where their deviations add up to 0
pub MeetsHard-from_sum : (league : Instance) (m : Counts) → sum_by (λ c. deviation_of league.n m c.class) (hard_of league.constraints) ≡ 0 → MeetsHard league m
MeetsHard-from_sum league m h =
    let none = All-from_sum_zero (λ c. deviation_of league.n m c.class) (hard_of league.constraints) h in
    λ k d lt. All-from_sum_zero (λ x. x) (vector_of league.n m (get_or (hard_of league.constraints) k d).class) (none k d lt)

-- a schedule meets the hard constraints only where their deviations add up to 0
pub sum-from_MeetsHard : (league : Instance) (m : Counts) → MeetsHard league m → sum_by (λ c. deviation_of league.n m c.class) (hard_of league.constraints) ≡ 0
sum-from_MeetsHard league m h =
    sum_zero-from_All (λ c. deviation_of league.n m c.class) (hard_of league.constraints)
    (λ k d lt. sum_zero-from_All (λ x. x) (vector_of league.n m (get_or (hard_of league.constraints) k d).class) (h k d lt))
