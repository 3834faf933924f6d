use Rattle.std.proofs.Common.{ℕ, ◌<◌, ◌≤◌, ◌^◌, length, get_or, take}
use Rattle.deviation.specs.Bits.{AreBits}
use Rattle.deviation.proofs.bits.bits_of.Given as goal

abbrev pub invariant-loop-number : goal.invariant-loop-number
invariant-loop-number l = record {
  set : AreBits (take l.number-index l.numbers) l.bits;
  below : (k : ℕ) → l.number-index ≤ k → k < length l.numbers → l.bits < 2 ^ get_or l.numbers k 0;
}
