use Rattle.std.proofs.Common.{IfOk, subst, sym}
use Rattle.answers.specs.SeenReply.{answer_of}
use Rattle.bounds.specs.declared.proved.Proved.{Proved}
use Rattle.command_prove.specs.Told.{Tells}
use Rattle.command_prove.proofs.ShownLemmas.{told-better}
use Rattle.command_prove.proofs.prove_replies.proof_reply.Goals as goal

pub returns-in-Better : goal.returns-in-Better
returns-in-Better g c =
    subst
    (λ (proved : Proved).
    IfOk c.better_reply.result (λ reply. Tells c.args.league.now c.args.counted.cost proved (answer_of reply)))
    (sym c.in-Better.is)
    (told-better _ _ c.better_reply.result c.better_reply.ensures.status c.better_reply.ensures.text)
