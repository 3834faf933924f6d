use Rattle.std.proofs.Common.{arith}
use Rattle.std.proofs.lemmas.Result.{err_from_is_err_and}
use Rattle.opb_forms.specs.Texts.{end_text, sum_text}
use Rattle.opb_forms.proofs.StreamLemmas.{OnOk-holds, Sends-exit, Sends-then}
use Rattle.opb_forms.proofs.rows_out.put_row.Goals as goal

pub returns-in_err-put_sum-clause-sends : goal.returns-in_err-put_sum-clause-sends
returns-in_err-put_sum-clause-sends g c =
    let p = err_from_is_err_and c.from_residual.result c.from_residual.ensures.1 in
    Sends-exit g.K.Sink c.args.sink.now c.put_sum.new.sink c.args.waiting.now c.put_sum.new.waiting
    c.put_sum.new.waiting (sum_text c.args.terms.now) (end_text c.args.degree) c.in_err-put_sum.field-0.0
    c.from_residual.result p.0 p.1 c.in_err-put_sum.ensures.sends

pub returns-clause-sends : goal.returns-clause-sends
returns-clause-sends g c =
    Sends-then g.K.Sink c.args.sink.now c.put_sum.new.sink c.put_end.new.sink c.args.waiting.now c.put_sum.new.waiting
    c.put_end.new.waiting (sum_text c.args.terms.now) (end_text c.args.degree) c.put_end.result
    c.in_ok-put_sum.ensures.sends c.put_end.ensures

pub returns-clause-small : goal.returns-clause-small
returns-clause-small g c =
    OnOk-holds c.put_end.result (record { terms = c.in_ok-put_sum.ensures.small; degree = omega arith })
