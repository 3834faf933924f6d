use Rattle.std.proofs.Common.{string_bytes}
use Rattle.robinx.proofs.PlainLemmas.{spelled_more}
use Rattle.robinx.proofs.plain.spelled.Goals as goal

pub loop-c-preserved : goal.loop-c-preserved
loop-c-preserved c =
    spelled_more c.args.characters.now c.loop-c.c-index c.c-item.result _ (string_bytes c.loop-c.text) (string_bytes c.push.new.self)
    c.loop-c-test.true c.c-item.is c.loop-c.invariant c.in_ok-push.ensures.bytes
