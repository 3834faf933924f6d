-- Worked examples, so that a wrong count, look-up or number does not check.
use Rattle.std.proofs.Common.{◌≡◌, ◌^◌, ◌-◌, true, false, List, [], ◌∷◌, Some, None, refl, arith, decimal}
use Rattle.std.specs.Prelude.{codes}
use Rattle.std.specs.Fmt.{digits}
use Rattle.std.specs.Str.Parse.{digits_value}
use Rattle.robin_io.specs.Counts.{raised, Rose, TookMore}
use Rattle.robin_io.specs.Written.{AppendsPrefix}
use Rattle.robin_io.specs.ShelfView.{FileView, contents_in, faults_in}
use Rattle.robin_io.specs.Numbers.{is_number}

-- ---- counts, whose last value is 18446744073709551615

-- 7 + 3
pub raised-small : raised 7 3 ≡ 10
raised-small = refl

-- two below the last value, five more stop at it
pub raised-to_last : raised 18446744073709551613 5 ≡ 18446744073709551615
raised-to_last = refl

pub raised-at_last : raised 18446744073709551615 1 ≡ 18446744073709551615
raised-at_last = refl

-- one more is a rise, as many isn't
pub Rose-by_one : Rose 7 8
Rose-by_one = omega arith

pub Rose-not : Rose 7 7 → ⊥
Rose-not = λ rose. omega (arith, rose)

-- a count at its last value can't rise, and counts as risen
pub Rose-at_last : Rose 18446744073709551615 18446744073709551615
Rose-at_last = omega arith

-- one below it can, and has to
pub Rose-below_last : Rose 18446744073709551614 18446744073709551614 → ⊥
Rose-below_last = λ rose. omega (arith, rose)

-- from 10 to 16 are six bytes, more than five; to 15 are five
pub TookMore-six : TookMore 5 10 16
TookMore-six = omega arith

pub TookMore-five : TookMore 5 10 15 → ⊥
TookMore-five = λ more. omega (arith, more)

-- two bytes bring the count to its last value, where nothing tells how many more there were
pub TookMore-last : TookMore 5 18446744073709551613 18446744073709551615
TookMore-last = omega arith

-- ---- writing that was cut short

-- of "cde" the first two were written after "ab"
pub AppendsPrefix-two : AppendsPrefix (Some (codes "ab")) (Some (codes "abcd")) (codes "cde")
AppendsPrefix-two = (2, omega arith, refl)

-- ---- a store's files

-- "ab" has failed twice and "b" never
abbrev two_files : List FileView
two_files = record { name = codes "ab"; bytes = codes "x"; faults = 2 } ∷ record { name = codes "b"; bytes = []; faults = 0 } ∷ []

pub contents_in-first : contents_in two_files (codes "ab") ≡ Some (codes "x")
contents_in-first = refl

-- an empty file is a file
pub contents_in-empty : contents_in two_files (codes "b") ≡ Some []
contents_in-empty = refl

-- the front of a name is another name, and so is the empty name
pub contents_in-front : contents_in two_files (codes "a") ≡ None
contents_in-front = refl

pub contents_in-no_name : contents_in two_files [] ≡ None
contents_in-no_name = refl

-- a file has its own count, also where it is 0; a name without a file has the common one, here 9
pub faults_in-own : faults_in two_files 9 (codes "ab") ≡ 2
faults_in-own = refl

pub faults_in-none : faults_in two_files 9 (codes "b") ≡ 0
faults_in-none = refl

pub faults_in-common : faults_in two_files 9 (codes "a") ≡ 9
faults_in-common = refl

-- ---- decimal numbers

pub is_number-empty : is_number [] ≡ false
is_number-empty = refl

pub is_number-zeros : is_number (codes "007") ≡ true
is_number-zeros = refl

-- `/` is the byte before `0`, `:` the byte behind `9`
pub is_number-slash : is_number (codes "1/") ≡ false
is_number-slash = refl

pub is_number-colon : is_number (codes ":1") ≡ false
is_number-colon = refl

pub is_number-plus : is_number (codes "+1") ≡ false
is_number-plus = refl

pub is_number-white : is_number (codes "1 ") ≡ false
is_number-white = refl

-- 4 * 100 + 0 * 10 + 7, whatever zeros stand before
pub digits_value-zeros : digits_value 10 (codes "00407") ≡ 407
digits_value-zeros = refl

-- 2^64, the least number that is too large
pub digits_value-too_large : digits_value 10 (codes "18446744073709551616") ≡ 2 ^ 64
digits_value-too_large = refl

pub decimal-0 : decimal 0 ≡ codes "0"
unfolding digits
decimal-0 = refl

-- zeros within and behind are written, none before
pub decimal-1020 : decimal 1020 ≡ codes "1020"
unfolding digits
decimal-1020 = refl

-- the greatest number of 128 bits
pub decimal-greatest : decimal (2 ^ 128 - 1) ≡ codes "340282366920938463463374607431768211455"
unfolding digits
decimal-greatest = refl
