use Rattle.std.proofs.Common.{ℕ, eqb, sym, arith}
use Rattle.std.proofs.lemmas.List.Sums.{position_or_len_is}
use Rattle.robinx.proofs.lists.len_before.Goals as goal

pub returns-after-loop-len-clause-value : goal.returns-after-loop-len-clause-value
returns-after-loop-len-clause-value c =
    sym (position_or_len_is (λ (b : ℕ). eqb b c.args.byte) c.args.text.now c.loop-len.len 0 c.loop-len.invariant.within c.loop-len.invariant.before (λ lt. absurd (omega (arith, c.loop-len-test.false))))
