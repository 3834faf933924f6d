use Rattle.robin_io.specs.Outside.{Store, store_between}
use Rattle.encoding.specs.Encoding.{rows_of}
use Rattle.encoding.specs.Variables.{var_count}
use Rattle.answers.proofs.StageLemmas.{Answers-wider}
use Rattle.command_check.specs.Check.{most_log_bytes}
use Rattle.command_check.proofs.StageLemmas.{read-verdict}
use Rattle.command_check.proofs.stages.check_log.Goals as goal

-- where the verdict over the rows of the league says yes, the league accepts nothing
pub returns-clause-answer : goal.returns-clause-answer
returns-clause-answer g c =
    let store : Store = store_between g.S.Shelf c.args.shelf.now c.judge_log.new.shelf in
    Answers-wider _ _
    (λ answer. read-verdict (store.contents c.args.name.now) (store.took_more most_log_bytes)
    (store.failed c.args.name.now)
    c.args.encoding.now c.args.limit answer c.in_ok-checker.ensures.instance)
    c.judge_log.result
    (c.judge_log.ensures.answer (rows_of c.args.encoding.now) (var_count c.args.encoding.now)
    c.in_ok-checker.ensures.checker)

pub returns-clause-full : goal.returns-clause-full
returns-clause-full g c = λ is.
    c.judge_log.ensures.passes is (rows_of c.args.encoding.now) (var_count c.args.encoding.now)
    c.in_ok-checker.ensures.checker
