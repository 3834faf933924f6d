use Rattle.answers.specs.SeenReply.{answer_of}
use Rattle.command_check.proofs.StageLemmas.{ended-verdict, faulty-log}
use Rattle.command_check.proofs.stages.verdict_on.Goals as goal

pub returns-in_ok-verdict_reply-in-Ok-clause-verdict : goal.returns-in_ok-verdict_reply-in-Ok-clause-verdict
returns-in_ok-verdict_reply-in-Ok-clause-verdict c = λ rows vars room bytes checked has.
    ended-verdict rows vars room bytes c.args.feed c.args.checker.now c.args.steps c.verdict.result
    (answer_of c.in_ok-verdict_reply-in-Ok.field-0) checked c.in-Ok.ensures has c.verdict.ensures
    c.in_ok-verdict_reply-in-Ok.ensures

pub returns-in_ok-log_refused-in-Err-Form-clause-verdict : goal.returns-in_ok-log_refused-in-Err-Form-clause-verdict
returns-in_ok-log_refused-in-Err-Form-clause-verdict c = λ rows vars room bytes checked has.
    faulty-log rows vars room bytes c.args.feed c.args.checker.now c.args.steps c.in-Err-Form.kind c.in-Err-Form.line
    (answer_of c.in_ok-log_refused-in-Err-Form.field-0.reply) checked (rw c.in-Err-Form.field-0-is at c.in-Err-Form.ensures)
    c.in_ok-log_refused-in-Err-Form.ensures
