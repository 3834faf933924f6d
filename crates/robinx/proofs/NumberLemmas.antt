-- Numbers of one digit and of two.
use Rattle.std.proofs.Common.{◌≡◌, ℕ, ◌+◌, ◌-◌, ◌*◌, ◌^◌, ◌<◌, true, [], ◌∷◌, Ok, refl, arith}
use Rattle.std.specs.Prelude.{nat_lt}
use Rattle.std.specs.Char.{is_ascii_digit, digit_value}
use Rattle.std.specs.Int.{IsInRange}
use Rattle.std.specs.Str.Parse.{digits_value}
use Rattle.std.proofs.lemmas.Bool.{lt-ltb}
use Rattle.std.proofs.lemmas.Bool.Decides.{nat_tests}
use Rattle.std.proofs.lemmas.Str.{digit_value_digit}
use Rattle.robinx.specs.Values.{number}

in_range : (d : ℕ) → is_ascii_digit d ≡ true → IsInRange 48 57 d
in_range d digit = grind (arith, nat_tests)

value_of_digit : (d : ℕ) → is_ascii_digit d ≡ true → (digit_value d ≡ d - 48) × (digit_value d < 10)
value_of_digit d digit =
    let range : IsInRange 48 57 d = in_range d digit in
    let value : digit_value d + 48 ≡ d = digit_value_digit d range in
    (omega arith, omega (arith, range))

pub number_of_one : (d : ℕ) → is_ascii_digit d ≡ true → number (d ∷ []) ≡ Ok (d - 48)
number_of_one d digit =
    let value = value_of_digit d digit in
    let is : digits_value 10 (d ∷ []) ≡ d - 48 = omega (arith, value) in
    let small : nat_lt (d - 48) (2 ^ 32) ≡ true = lt-ltb (d - 48) (2 ^ 32) (omega (arith, value)) in
    rw (digit, is, small) refl

pub number_of_two : (t d : ℕ) → is_ascii_digit t ≡ true → is_ascii_digit d ≡ true → number (t ∷ d ∷ []) ≡ Ok ((t - 48) * 10 + (d - 48))
number_of_two t d tens ones =
    let high = value_of_digit t tens in
    let low = value_of_digit d ones in
    let is : digits_value 10 (t ∷ d ∷ []) ≡ (t - 48) * 10 + (d - 48) = omega (arith, high, low) in
    let small : nat_lt ((t - 48) * 10 + (d - 48)) (2 ^ 32) ≡ true = lt-ltb ((t - 48) * 10 + (d - 48)) (2 ^ 32) (omega (arith, high, low)) in
    rw (tens, ones, is, small) refl
