-- The texts of numbers, and what they are read as.
use Rattle.std.proofs.Common.{◌≡◌, ℕ, zero, suc, ◌+◌, ◌<◌, ◌≤◌, ◌^◌, ◌/◌, ◌%◌, Bool, true, false, not, ◌&&◌, ◌||◌, ◌==◌, cond, List, [], ◌∷◌, decimal, Ok, refl, ap, ◌∙◌, arith}
use Rattle.std.specs.Prelude.{nat_lt}
use Rattle.std.specs.List.{list_all}
use Rattle.std.specs.Fmt.{digits, digits_onto, digit_glyph}
use Rattle.std.specs.Str.Parse.{digits_value}
use Rattle.std.proofs.lemmas.Bool.Decides.{nat_tests}
use Rattle.robin_io.specs.Numbers.{is_number}
use Rattle.robin_io.proofs.NumberLemmas.{is_number-decimal, reads-decimal}
use Rattle.robinx.specs.declared.tag_fault.FormKind.{FormKind}
use Rattle.robinx.specs.Values.{number, id}
use Rattle.robinx.proofs.TagLemmas.{is_plain_value}

glyph_is : (d : ℕ) → d < 10 → digit_glyph false d ≡ 48 + d
glyph_is d less = grind (arith, nat_tests)

all_by : (p : ℕ → Bool) (t : Bool) (xs ys : List ℕ) → list_all p xs ≡ true → list_all p ys ≡ true → list_all p (cond t xs ys) ≡ true
all_by p true xs ys first second = first
all_by p false xs ys first second = second

onto-all : (p : ℕ → Bool) → ((d : ℕ) → d < 10 → p (48 + d) ≡ true) → (k n : ℕ) (acc : List ℕ) → list_all p acc ≡ true → list_all p (digits_onto k 10 false n acc) ≡ true
onto-all p digit zero n acc all = all
onto-all p digit (suc k) n acc all =
    let glyph : digit_glyph false (n % 10) ≡ 48 + n % 10 = glyph_is (n % 10) (omega arith) in
    let first : p (digit_glyph false (n % 10)) ≡ true = ap p glyph ∙ digit (n % 10) (omega arith) in
    let more : list_all p (digit_glyph false (n % 10) ∷ acc) ≡ true = ap (λ (b : Bool). b && list_all p acc) first ∙ all in
    all_by p (n / 10 == 0) (digit_glyph false (n % 10) ∷ acc) (digits_onto k 10 false (n / 10) (digit_glyph false (n % 10) ∷ acc)) more (onto-all p digit k (n / 10) (digit_glyph false (n % 10) ∷ acc) more)

-- what holds of each digit holds of each byte of a number's text
pub decimal-all : (p : ℕ → Bool) → ((d : ℕ) → d < 10 → p (48 + d) ≡ true) → (n : ℕ) → list_all p (decimal n) ≡ true
unfolding digits
decimal-all p digit n = onto-all p digit 64 n [] refl

-- no digit ends a value
digit-plain : (d : ℕ) → d < 10 → not (48 + d == 34 || 48 + d == 60) ≡ true
digit-plain d less = grind (arith, nat_tests)

pub decimal-plain : (n : ℕ) → is_plain_value (decimal n) ≡ true
decimal-plain n = decimal-all (λ b. not (b == 34 || b == 60)) digit-plain n

-- ---- reading

less_test : (n limit : ℕ) → n < limit → nat_lt n limit ≡ true
less_test n limit h = grind (arith, nat_tests)

pub number-decimal : (n : ℕ) → n < 2 ^ 32 → number (decimal n) ≡ Ok n
number-decimal n small =
    let digits : is_number (decimal n) ≡ true = is_number-decimal n (omega arith) in
    let value : digits_value 10 (decimal n) ≡ n = (reads-decimal n (decimal n) (omega arith) refl).2 in
    let fits : nat_lt n (2 ^ 32) ≡ true = less_test n (2 ^ 32) small in
    rw (digits, value, fits) refl

pub id-decimal : (unknown : FormKind) (limit n : ℕ) → limit ≤ 2 ^ 32 → n < limit → id unknown limit (decimal n) ≡ Ok n
id-decimal unknown limit n small h =
    let value : number (decimal n) ≡ Ok n = number-decimal n (omega arith) in
    let fits : nat_lt n limit ≡ true = less_test n limit h in
    rw (value, fits) refl
