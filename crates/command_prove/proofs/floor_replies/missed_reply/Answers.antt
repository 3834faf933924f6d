use Rattle.std.proofs.Common.{arith}
use Rattle.command_prove.proofs.FloorLemmas.{told-missed, told-reached}
use Rattle.command_prove.proofs.floor_replies.missed_reply.Goals as goal

pub returns-then-sought-floor : goal.returns-then-sought-floor
returns-then-sought-floor g c =
    told-reached c.args.league.now c.args.sought.counted.cost c.args.sought.bound c.in_ok-floor.floor c.args.log.now
    c.reached_reply.result c.in_ok-floor.ensures (omega (arith, c.if-sought-floor.true)) c.reached_reply.ensures.status
    c.reached_reply.ensures.text c.reached_reply.ensures.reads_back

pub returns : goal.returns
returns g c =
    told-missed c.args.league.now c.args.sought.counted.cost c.args.sought.bound c.in_ok-floor.floor c.args.log.now
    c.spent_reply.result c.in_ok-floor.ensures (omega (arith, c.if-sought-floor.false)) c.spent_reply.ensures.status
    c.spent_reply.ensures.text c.spent_reply.ensures.floor_reads_back c.spent_reply.ensures.reads_back
