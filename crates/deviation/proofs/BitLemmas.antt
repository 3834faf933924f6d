-- Numbers as bits, one number more at a time.
use Rattle.std.proofs.Common.{◌≡◌, ℕ, zero, suc, ◌+◌, ◌*◌, ◌/◌, ◌%◌, ◌^◌, ◌<◌, ◌≤◌, bit_and, bit_or, count_ones, refl, arith, ap, sym, ◌∙◌}
use Rattle.std.proofs.Math.Nat.{mod-eq_of_lt, pow-le-pow_right}
use Rattle.std.proofs.lemmas.Nat.{and_block, and_le_r, and_mod, mod_below, one_shl, ones_cat, or_comm, or_shifted, pow-add, pow_pos, shr_split}
use Rattle.std.proofs.lemmas.Nat.Bits.{bit_at-lt, shr_and_one}
use Rattle.std.specs.Int.{bit_at}

-- no bits
and_none : (others : ℕ) → bit_and others 0 ≡ 0
and_none others = omega (arith, and_le_r others 0)

pub none_set : (others : ℕ) → count_ones (bit_and others 0) ≡ 0
unfolding lib.Count.ones
none_set others = ap count_ones (and_none others)

-- one bit is itself its number
one_bit : (b : ℕ) → b < 2 → count_ones b ≡ b
unfolding lib.Count.ones
one_bit zero lt = refl
one_bit (suc zero) lt = refl
one_bit (suc (suc b)) lt = absurd (omega arith)

-- a bit above all others is added
bit_above : (bits x : ℕ) → x < 128 → bits < 2 ^ x → bit_or bits (1 * 2 ^ x % 2 ^ 128) ≡ 1 * 2 ^ x + bits
bit_above bits x small below =
    let bit : 1 * 2 ^ x % 2 ^ 128 ≡ 1 * 2 ^ x = omega (arith, one_shl x 128 small) in
    ap (bit_or bits) bit ∙ or_comm bits (1 * 2 ^ x) ∙ or_shifted 1 x bits below

-- the bits below a place
low_bits : (others x bits : ℕ) → bits < 2 ^ x → bit_and (others % 2 ^ x) bits ≡ bit_and others bits
low_bits others x bits below =
    let both : bit_and others bits < 2 ^ x = omega (arith, and_le_r others bits) in
    sym (ap (bit_and (others % 2 ^ x)) (mod-eq_of_lt below)) ∙ sym (and_mod others bits x) ∙ mod-eq_of_lt both

-- of any bits, those that are also among some bits and one above them
pub one_more_set : (others bits x : ℕ) → x < 128 → bits < 2 ^ x
    → count_ones (bit_and others (bit_or bits (1 * 2 ^ x % 2 ^ 128))) ≡ count_ones (bit_and others bits) + bit_at others x
one_more_set others bits x small below =
    let high : ℕ = others / 2 ^ x in
    let low : ℕ = others % 2 ^ x in
    let low_below : low < 2 ^ x = mod_below others (2 ^ x) (pow_pos x) in
    let both_below : bit_and low bits < 2 ^ x = omega (arith, and_le_r low bits, below) in
    let split : bit_and others (bit_or bits (1 * 2 ^ x % 2 ^ 128)) ≡ bit_and high 1 * 2 ^ x + bit_and low bits =
    ap (bit_and others) (bit_above bits x small below)
    ∙ ap (λ (n : ℕ). bit_and n (1 * 2 ^ x + bits)) (sym (shr_split others x))
    ∙ and_block x high 1 low bits low_below below in
    let one : count_ones (bit_and high 1) ≡ bit_at others x =
    ap count_ones (shr_and_one others x) ∙ one_bit (bit_at others x) (bit_at-lt others x) in
    let rest : count_ones (bit_and low bits) ≡ count_ones (bit_and others bits) =
    ap count_ones (low_bits others x bits below) in
    omega (arith, ap count_ones split, ones_cat x (bit_and high 1) (bit_and low bits) both_below, one, rest)

-- some bits and one above them are below each place that comes later
pub below_later : (bits x y : ℕ) → x < 128 → bits < 2 ^ x → x < y → bit_or bits (1 * 2 ^ x % 2 ^ 128) < 2 ^ y
below_later bits x y small below order =
    let positive : 0 < 2 = omega arith in
    let later : x + 1 ≤ y = omega arith in
    let most : 2 ^ (x + 1) ≤ 2 ^ y = pow-le-pow_right positive later in
    let doubled : 2 ^ (x + 1) ≡ 2 ^ x * 2 = pow-add 2 x 1 in
    omega (arith, bit_above bits x small below, most, doubled)
