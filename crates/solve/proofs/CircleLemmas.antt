-- The games of the circle method: there are few, in whatever order.
use Rattle.std.proofs.Common.{◌≡◌, ℕ, ◌-◌, ◌*◌, ◌≤◌, List, length, arith, sym, ◌∙◌}
use Rattle.std.specs.List.Sorted.{IsPermutation}
use Rattle.std.proofs.Math.Nat.{mul-le-mul_left}
use Rattle.std.proofs.lemmas.List.Sorted.{sum_by-IsPermutation}
use Rattle.league.specs.declared.game.Game.{Game}
use Rattle.decoding.proofs.GameLemmas.{ones}

product_few : (n : ℕ) → n ≤ 40 → n * (n - 1) ≤ 1560
product_few n most = omega (arith, mul-le-mul_left n (let less : n - 1 ≤ 39 = omega (arith, most) in less))

length-permutation : (games more : List Game) → IsPermutation games more → length more ≡ length games
length-permutation games more is = sym (ones more) ∙ sum_by-IsPermutation (λ g. 1) games more is ∙ ones games

pub double_few : (n k : ℕ) (games more : List Game) → k ≡ n → n ≤ 40 → length games ≡ k * (k - 1)
    → IsPermutation games more → length more ≤ 10000
double_few n k games more same most count is =
    omega (arith, length-permutation games more is, count, product_few k (omega (arith, same, most)))
