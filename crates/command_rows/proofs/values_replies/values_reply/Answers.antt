use Rattle.std.proofs.Common.{arith, ◌∙◌}
use Rattle.std.proofs.lemmas.Result.{IfOk-weaker}
use Rattle.league.specs.Instance.{Instance}
use Rattle.answers.specs.SeenReply.{answer_of}
use Rattle.rows.specs.Values.{assigned}
use Rattle.encoding.specs.Encoding.{rows_of}
use Rattle.command_rows.specs.Valued.{IsValued, found_of, missed_from}
use Rattle.command_rows.proofs.values_replies.values_reply.Goals as goal

pub found_reply-requires-clause-count : goal.found_reply-requires-clause-count
found_reply-requires-clause-count c = c.in_ok-values.ensures.length ∙ c.vars.ensures.vars

pub found_reply-requires-clause-known : goal.found_reply-requires-clause-known
found_reply-requires-clause-known c = c.vars.ensures.known

pub returns : goal.returns
returns c =
    let league : Instance = c.args.encoding.now in
    let values = assigned c.in_ok-values.values in
    IfOk-weaker c.found_reply.result
    (λ reply. found_of league values (missed_from 1 (rows_of league) values) (answer_of reply))
    (λ reply. IsValued league (rows_of league) c.args.lits.now (answer_of reply))
    (λ reply found. record {
      values = c.in_ok-values.values;
      are_values = record {
        count = c.in_ok-values.ensures.length ∙ c.vars.ensures.vars;
        each = λ v least most. c.in_ok-values.ensures.values v least (omega (arith, c.vars.ensures.vars, most));
      };
      found = found;
    })
    c.found_reply.ensures
