-- Numbers of a row, of 64 bits. A row has them from 0 on: lower ones read as 0, and a divisor below 1 as 1.
use Rattle.std.specs.Prelude.{ℕ, ◌+◌, ◌-◌, ◌*◌, ◌^◌, ◌<◌, ◌≤◌, max, min, unsigned_abs, ℤ, pos, negsuc, neg_ℤ}
use Rattle.std.specs.Int.{div_ceil, saturate_signed, w64}

-- the number itself, or 0 where it is lower
abbrev pub from_zero : ℤ → ℕ
from_zero (pos n) = n
from_zero (negsuc _) = 0

-- the number itself, or 1 where it is lower
abbrev pub from_one : ℤ → ℕ
from_one number = max 1 (from_zero number)

-- the opposite number; of the lowest number of 64 bits it is the greatest
abbrev pub minus : ℤ → ℤ
minus number = saturate_signed w64 (neg_ℤ number)

-- how far a number is from 0, and at most 2^63 - 1
abbrev pub size_of : ℤ → ℕ
size_of number = min (unsigned_abs number) (2 ^ 63 - 1)

-- a number divided, rounding up
abbrev pub divided_up : ℤ → ℤ → ℕ
divided_up number divisor = div_ceil (from_zero number) (from_one divisor)

-- q is the least number with n ≤ q * d
pub record IsRoundedUp (n d q : ℕ) : Type 0 where
  pub reaches : n ≤ q * d
  pub least : q * d < n + d
