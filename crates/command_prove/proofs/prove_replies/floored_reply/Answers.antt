use Rattle.std.proofs.Common.{arith}
use Rattle.command_prove.proofs.ShownLemmas.{told-least, told-spent}
use Rattle.command_prove.proofs.prove_replies.floored_reply.Goals as goal

pub returns-then-counted-from : goal.returns-then-counted-from
returns-then-counted-from g c =
    told-least c.args.league.now c.args.counted.cost c.in_ok-floor.floor c.args.log.now c.least_reply.result
    c.in_ok-floor.ensures (omega (arith, c.if-counted-from.true, c.from.ensures)) c.least_reply.ensures

pub returns : goal.returns
returns g c =
    told-spent c.args.league.now c.args.counted.cost c.in_ok-floor.floor c.args.log.now c.spent_reply.result
    c.in_ok-floor.ensures (omega (arith, c.if-counted-from.false, c.from.ensures)) c.spent_reply.ensures.status
    c.spent_reply.ensures.text c.spent_reply.ensures.floor_reads_back c.spent_reply.ensures.reads_back
