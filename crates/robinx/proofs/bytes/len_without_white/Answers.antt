use Rattle.std.proofs.Common.{arith}
use Rattle.robinx.specs.Bytes.{is_white}
use Rattle.robinx.proofs.ByteSearch.{run_back}
use Rattle.robinx.proofs.bytes.len_without_white.Goals as goal

pub returns-after-loop-len-clause-value : goal.returns-after-loop-len-clause-value
returns-after-loop-len-clause-value c =
    run_back is_white c.args.bytes.now c.loop-len.len c.loop-len.invariant.within c.loop-len.invariant.after (λ some. absurd (omega (arith, c.loop-len-test.false)))
