use Rattle.std.proofs.Common.{inl, refl}
use Rattle.answers.specs.Stages.{Outcome}
use Rattle.answers.proofs.StageLemmas.{Answers-wider}
use Rattle.command_check.specs.Check.{encodes}
use Rattle.command_explain.specs.Explained.{IsFound}
use Rattle.command_explain.specs.Replied.{IsReplied}
use Rattle.command_explain.proofs.StageLemmas.{replied-so}
use Rattle.command_explain.proofs.stages.found_of.Goals as goal

pub returns-in-Ok : goal.returns-in-Ok
returns-in-Ok g c =
    let found : Outcome = IsFound c.args.league.now c.args.conflicts (g.W.Watch.may_stop c.args.watch.now) in
    Answers-wider (IsReplied c.found_reply-reply.result) (encodes c.args.league.now (λ rows. found))
    (λ answer replied.
    inl (
      c.in-Ok.ensures.limit.within refl,
      replied-so found c.found_reply-reply.result answer c.found_reply-reply.ensures replied,
    ))
    c.told.result c.told.ensures
