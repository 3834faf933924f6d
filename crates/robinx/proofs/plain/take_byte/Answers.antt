use Rattle.std.proofs.Common.{arith}
use Rattle.robinx.proofs.EntityLemmas.{taken}
use Rattle.robinx.proofs.plain.take_byte.Goals as goal

pub returns : goal.returns
returns c =
    taken c.args.text.now.items c.push.new.self.items c.args.bytes.now c.args.inside c.byte_at-byte.result.0 c.byte_at-byte.result.1
    (omega arith) c.requires c.byte_at-byte.ensures c.in_ok-push.ensures.items
