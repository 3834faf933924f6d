-- Numbers as bits.
use Rattle.std.specs.Prelude.{◌≡◌, ℕ, List, bit_and, count_ones}
use Rattle.std.specs.Int.{bit_at}
use Rattle.std.specs.List.{sum_by}

-- a bit for each of these numbers: of any bits, as many are also among these as are set for one of the numbers
abbrev pub AreBits : List ℕ → ℕ → Type 0
AreBits numbers bits = (others : ℕ) → count_ones (bit_and others bits) ≡ sum_by (bit_at others) numbers
