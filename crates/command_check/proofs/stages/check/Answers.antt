use Rattle.std.proofs.Common.{sym, List, ℕ, Option, length, subst}
use Rattle.robin_io.specs.Outside.{Store, store_between}
use Rattle.robin_io.proofs.StoreLemmas.{rest-between}
use Rattle.encoding.specs.Encoding.{rows_of}
use Rattle.encoding.specs.Variables.{var_count}
use Rattle.answers.proofs.StageLemmas.{Answers-wider}
use Rattle.answers.specs.SeenReply.{answer_of}
use Rattle.answers.specs.declared.refusal.Refusal.{Refusal}
use Rattle.command_check.specs.Check.{LogPassesRoom, checked}
use Rattle.command_check.proofs.StageLemmas.{checked-within}
use Rattle.command_check.proofs.stages.check.Goals as goal

-- the log has the contents that it had before the instance was read
pub returns-in-Ok-clause-answer : goal.returns-in-Ok-clause-answer
returns-in-Ok-clause-answer g c =
    let read = c.in-Ok.ensures.stage in
    Answers-wider _ _
    (checked-within (store_between g.S.Shelf c.args.shelf.now c.check_log.new.shelf)
    (store_between g.S.Shelf c.encoding_in.new.shelf c.check_log.new.shelf) c.args.limit c.args.instance.now
    c.args.log.now (g.S.Shelf.taken c.args.shelf.now) (g.S.Shelf.taken c.encoding_in.new.shelf) c.in-Ok.encoding read
    (rest-between g.S.Shelf c.args.shelf.now c.encoding_in.new.shelf c.check_log.new.shelf (length read.bytes)
    c.encoding_in.ensures.contents read.taken c.encoding_in.ensures.later))
    c.check_log.result c.check_log.ensures.answer

pub returns-in-Ok-clause-full : goal.returns-in-Ok-clause-full
returns-in-Ok-clause-full g c = λ is.
    let read = c.in-Ok.ensures.stage in
    record {
      first = read.bytes;
      first_file = read.file;
      league = c.in-Ok.encoding;
      says_league = read.says_league;
      passes =
          subst
          (λ (known : Option (List ℕ)).
          LogPassesRoom known (rows_of c.in-Ok.encoding) (var_count c.in-Ok.encoding) c.args.limit)
          (c.encoding_in.ensures.contents c.args.log.now) (c.check_log.ensures.full is);
    }

-- the instance file is refused
pub returns-in-Err-Refused-clause-answer : goal.returns-in-Err-Refused-clause-answer
returns-in-Err-Refused-clause-answer g c =
    let store : Store = store_between g.S.Shelf c.args.shelf.now c.encoding_in.new.shelf in
    let stage = rw c.in-Err-Refused.field-0-is at c.in-Err-Refused.ensures.stage in
    let refused : checked store c.args.limit c.args.instance.now c.args.log.now (answer_of c.in-Err-Refused.refusal.reply) =
    stage c.args.limit c.args.log.now in
    subst (λ (refusal : Refusal). checked store c.args.limit c.args.instance.now c.args.log.now (answer_of refusal.reply))
    (sym c.in-Err-Refused.refusal-is) refused
