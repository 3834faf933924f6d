use Rattle.std.proofs.Common.{subst, sym}
use Rattle.robin_io.specs.Outside.{Store, store_between}
use Rattle.answers.specs.SeenReply.{answer_of}
use Rattle.answers.specs.declared.refusal.Refusal.{Refusal}
use Rattle.answers.proofs.StageLemmas.{Answers-wider}
use Rattle.command_prove.specs.Bound.{bounded}
use Rattle.command_prove.proofs.BoundStages.{bounded-said}
use Rattle.command_prove.proofs.bound_stages.bound_file.Goals as goal

-- the certificate gets its verdict
pub returns-in-Ok-clause-answer : goal.returns-in-Ok-clause-answer
returns-in-Ok-clause-answer g c =
    Answers-wider _ _
    (bounded-said (store_between g.S.Shelf c.args.shelf.now c.claim_in.new.shelf) c.args.limit c.args.instance.now
    c.args.log.now c.in-Ok.claim.league c.in-Ok.claim.certificate c.in-Ok.ensures.stage.0) _
    c.judge_claim.ensures.answer

pub returns-in-Ok-clause-full : goal.returns-in-Ok-clause-full
returns-in-Ok-clause-full g c = λ is. record {
  league = c.in-Ok.claim.league;
  certificate = c.in-Ok.claim.certificate;
  read = c.in-Ok.ensures.stage.0;
  past = c.judge_claim.ensures.full is;
}

-- a file is refused
pub returns-in-Err-Refused-clause-answer : goal.returns-in-Err-Refused-clause-answer
returns-in-Err-Refused-clause-answer g c =
    let store : Store = store_between g.S.Shelf c.args.shelf.now c.claim_in.new.shelf in
    let stage = rw c.in-Err-Refused.field-0-is at c.in-Err-Refused.ensures.stage in
    let refused : bounded store c.args.limit c.args.instance.now c.args.log.now (answer_of c.in-Err-Refused.refusal.reply) =
    stage c.args.limit in
    subst (λ (refusal : Refusal). bounded store c.args.limit c.args.instance.now c.args.log.now (answer_of refusal.reply))
    (sym c.in-Err-Refused.refusal-is) refused
