-- What divides, rounding up.
use Rattle.std.proofs.Common.{◌≡◌, ℕ, ◌+◌, ◌*◌, ◌/◌, ◌%◌, ◌<◌, ◌≤◌, inl, inr, min, subst, arith}
use Rattle.std.specs.Int.{div_ceil}
use Rattle.std.proofs.lemmas.Bool.{cases_lt}
use Rattle.std.proofs.lemmas.Nat.{div-add-mod', mod_below}
use Rattle.planes.specs.Numbers.{IsRoundedUp}

-- nothing is left
rounded_up_whole : (n d q : ℕ) → q * d ≡ n → 0 < d → IsRoundedUp n d (q + 0)
rounded_up_whole n d q whole positive = record { reaches = omega arith; least = omega arith }

-- something is left
rounded_up_more : (n d q r : ℕ) → q * d + r ≡ n → 0 < r → r < d → IsRoundedUp n d (q + 1)
rounded_up_more n d q r whole left below = record { reaches = omega arith; least = omega arith }

pub rounded_up : (n d : ℕ) → 1 ≤ d → IsRoundedUp n d (div_ceil n d)
rounded_up n d positive =
    let whole : n / d * d + n % d ≡ n = div-add-mod' n d in
    let below : n % d < d = mod_below n d (omega arith) in
    let P : ℕ → Type 0 = λ k. IsRoundedUp n d (n / d + k) in
    elim (cases_lt 0 (n % d)) [
      | inl some ↦
          let one : 1 ≡ min 1 (n % d) = omega arith in
          subst P one (rounded_up_more n d (n / d) (n % d) whole some below)
      | inr none ↦
          let zero : 0 ≡ min 1 (n % d) = omega arith in
          subst P zero (rounded_up_whole n d (n / d) (omega arith) (omega arith))
    ]
