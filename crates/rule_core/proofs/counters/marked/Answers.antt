use Rattle.std.proofs.Common.{ℕ, ◌*◌, ◌%◌, ◌^◌, ◌<◌, arith, ap, sym, ◌∙◌}
use Rattle.std.specs.Int.{bit_not, w128}
use Rattle.std.proofs.lemmas.Nat.{and_le_l, one_shl, or_lt, pow_below}
use Rattle.std.proofs.lemmas.Nat.Bits.{bit_at_clear_other, bit_at_clear_same, bit_at_set_other, bit_at_set_same}
use Rattle.league.proofs.RangeLemmas.{one_if}
use Rattle.rule_core.proofs.counters.marked.Goals as goal

small_bit : (k : ℕ) → k < 78 → 1 * 2 ^ k % 2 ^ 128 < 2 ^ 78
small_bit k lt = omega (arith, one_shl k 128 (omega arith), pow_below k 78 lt)

pub returns-then-there : goal.returns-then-there
returns-then-there c = record {
  small = or_lt 78 c.args.bits _ c.requires.small (small_bit c.args.column c.requires.column);
  same = bit_at_set_same w128 _ _ (omega arith) ∙ sym (ap one_if c.if-there.true);
  others = λ k lt differ. bit_at_set_other w128 _ _ (omega arith) k differ;
}

pub returns-else-there : goal.returns-else-there
returns-else-there c = record {
  small = omega (arith, and_le_l c.args.bits (bit_not w128 (1 * 2 ^ c.args.column % 2 ^ 128)), c.requires.small);
  same = bit_at_clear_same w128 _ _ (omega arith) ∙ sym (ap one_if c.if-there.false);
  others = λ k lt differ. bit_at_clear_other w128 _ _ (omega arith) k (omega arith) differ;
}
