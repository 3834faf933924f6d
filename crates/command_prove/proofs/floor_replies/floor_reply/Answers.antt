use Rattle.std.proofs.Common.{IfOk, subst, sym}
use Rattle.answers.specs.SeenReply.{answer_of}
use Rattle.bounds.specs.declared.proved.Proved.{Proved}
use Rattle.command_prove.specs.Told.{TellsFloor}
use Rattle.command_prove.proofs.FloorLemmas.{told-none}
use Rattle.command_prove.proofs.ShownLemmas.{told-better}
use Rattle.command_prove.proofs.floor_replies.floor_reply.Goals as goal

pub returns-in-Least : goal.returns-in-Least
returns-in-Least g c =
    subst
    (λ (proved : Proved). IfOk c.reached_reply.result (λ reply.
    TellsFloor c.args.league.now c.args.sought.counted.cost c.args.sought.bound proved (answer_of reply)))
    (sym c.in-Least.is)
    (told-none c.args.league.now c.args.sought.counted.cost c.args.sought.bound _ _ c.reached_reply.result
    c.reached_reply.ensures.status c.reached_reply.ensures.text c.reached_reply.ensures.reads_back)

pub returns-in-Better : goal.returns-in-Better
returns-in-Better g c =
    subst
    (λ (proved : Proved). IfOk c.better_reply.result (λ reply.
    TellsFloor c.args.league.now c.args.sought.counted.cost c.args.sought.bound proved (answer_of reply)))
    (sym c.in-Better.is)
    (told-better _ _ c.better_reply.result c.better_reply.ensures.status c.better_reply.ensures.text)
