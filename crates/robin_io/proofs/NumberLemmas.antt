-- Values of digits.
use Rattle.std.proofs.Common.{◌≡◌, ℕ, ◌+◌, ◌-◌, ◌*◌, ◌<◌, ◌≤◌, ◌^◌, true, List, length, get_or, take, arith, rules, ap, refl, decimal, Option, Some, None, SomeIff}
use Rattle.std.specs.List.{list_all}
use Rattle.std.specs.Char.{is_ascii_digit}
use Rattle.std.specs.Str.Parse.{digits_value}
use Rattle.robin_io.specs.Numbers.{is_number}
use Rattle.std.proofs.lemmas.List.{take_all}
use Rattle.std.proofs.lemmas.Str.{digit_value_digit}
use Rattle.std.proofs.lemmas.Int.Digits.{digits_value_more}
use Rattle.std.proofs.lemmas.Str.Parse.{IsNumeralModel, numerals_by_value, digit_at, digits_value-take-le}
use Rattle.std.proofs.lemmas.Bool.{lt-ltb}
use Rattle.std.proofs.lemmas.Fmt.{digits_decimal, digits_value-decimal, decimal_nonempty}

-- texts of ASCII digits and what they write
pub ascii_digits : IsNumeralModel (λ ds. list_all is_ascii_digit ds ≡ true) (digits_value 10)
ascii_digits = numerals_by_value _ (search rules)

-- the number of one digit more
pub value_more : (ds : List ℕ) (i : ℕ) → list_all is_ascii_digit ds ≡ true → i < length ds
    → digits_value 10 (take (i + 1) ds) ≡ digits_value 10 (take i ds) * 10 + (get_or ds i 0 - 48)
value_more ds i digits within =
    let digit = digit_value_digit (get_or ds i 0) (digit_at ds i (ascii_digits.to ds digits) within) in
    omega (arith, digit, digits_value_more 10 ds i within)

-- the number of one digit more is at most the whole number
pub more-le : (ds : List ℕ) (i : ℕ) → list_all is_ascii_digit ds ≡ true → i < length ds
    → digits_value 10 (take i ds) * 10 + (get_or ds i 0 - 48) ≤ digits_value 10 ds
more-le ds i digits within = omega (arith, value_more ds i digits within, digits_value-take-le 10 ds (i + 1) (omega arith))

pub value_whole : (ds : List ℕ) (i : ℕ) → length ds ≤ i → digits_value 10 (take i ds) ≡ digits_value 10 ds
value_whole ds i past = ap (digits_value 10) (take_all i ds past)

-- what a number's text is: digits, at least one, that write the number
pub reads-decimal : (n : ℕ) (bytes : List ℕ) → n < 2 ^ 64 → bytes ≡ decimal n
    → (0 < length bytes) × (list_all is_ascii_digit bytes ≡ true) × (digits_value 10 bytes ≡ n)
reads-decimal n bytes small is =
    rw is (decimal_nonempty n small, digits_decimal ascii_digits n small, digits_value-decimal ascii_digits n small)

-- a text of a number's digits is a number
pub is_number-decimal : (n : ℕ) → n < 2 ^ 64 → is_number (decimal n) ≡ true
is_number-decimal n small =
    let reads = reads-decimal n (decimal n) small refl in
    let some = lt-ltb 0 (length (decimal n)) reads.0 in
    rw (some, reads.1) refl

-- a value that is there where a fact holds
pub Some-from_SomeIff : (r : Option ℕ) (P : Type 0) (v : ℕ) → SomeIff r P v → P → r ≡ Some v
Some-from_SomeIff None P v h p = absurd (h p)
Some-from_SomeIff (Some x) P v h p = ap Some h.1
