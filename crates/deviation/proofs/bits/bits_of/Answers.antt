use Rattle.std.proofs.Common.{ℕ, ◌<◌, get_or, arith, le_refl}
use Rattle.std.proofs.lemmas.List.Sums.{sum_by_more}
use Rattle.std.proofs.lemmas.Nat.{pow_pos}
use Rattle.std.specs.Int.{bit_at}
use Rattle.league.proofs.SetLemmas.{less_than}
use Rattle.deviation.proofs.BitLemmas.{below_later, none_set, one_more_set}
use Rattle.deviation.proofs.bits.bits_of.Goals as goal

pub loop-number-init : goal.loop-number-init
loop-number-init c = record { set = λ others. none_set others; below = λ k from lt. pow_pos (get_or c.args.numbers.now k 0) }

pub loop-number-preserved : goal.loop-number-preserved
loop-number-preserved c =
    let i = c.loop-number.number-index in
    let x : ℕ = get_or c.args.numbers.now i 0 in
    let within = c.loop-number-test.true in
    let small : x < 128 = omega (arith, c.requires.below i 0 within) in
    let below = c.loop-number.invariant.below i (le_refl i) within in
    record {
      set = λ others. omega (arith, one_more_set others c.loop-number.bits x small below, c.loop-number.invariant.set others, sum_by_more (bit_at others) c.args.numbers.now i 0 within);
      below = λ k from lt. below_later c.loop-number.bits x (get_or c.args.numbers.now k 0) small below (less_than x (get_or c.args.numbers.now k 0) (c.requires.ascending i k 0 (omega arith) lt));
    }
