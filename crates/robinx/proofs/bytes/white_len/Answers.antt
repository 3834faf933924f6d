use Rattle.robinx.specs.Bytes.{is_white}
use Rattle.robinx.proofs.ByteSearch.{run_to_end}
use Rattle.robinx.proofs.bytes.white_len.Goals as goal

pub returns-after-loop-len-clause-value : goal.returns-after-loop-len-clause-value
returns-after-loop-len-clause-value c = run_to_end is_white c.args.bytes.now c.loop-len.len c.loop-len-test.false c.loop-len.invariant.within c.loop-len.invariant.before
