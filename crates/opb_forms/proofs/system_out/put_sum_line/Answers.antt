use Rattle.std.proofs.Common.{◌++◌, codes}
use Rattle.std.proofs.lemmas.Result.{err_from_is_err_and}
use Rattle.opb_forms.specs.Texts.{sum_text}
use Rattle.opb_forms.proofs.StreamLemmas.{OnOk-holds, Sends-exit, Sends-then}
use Rattle.opb_forms.proofs.system_out.put_sum_line.Goals as goal

pub returns-in_err-send-clause-sends : goal.returns-in_err-send-clause-sends
returns-in_err-send-clause-sends g c =
    let p = err_from_is_err_and c.from_residual.result c.from_residual.ensures.1 in
    Sends-exit g.K.Sink c.args.sink.now c.send.new.sink c.args.waiting.now c.send.new.waiting c.send.new.waiting
    (codes "min: ") (sum_text c.args.terms.now ++ codes ";\n") c.in_err-send.field-0.0
    c.from_residual.result p.0 p.1 c.in_err-send.ensures

pub returns-in_err-put_sum-clause-sends : goal.returns-in_err-put_sum-clause-sends
returns-in_err-put_sum-clause-sends g c =
    let p = err_from_is_err_and c.from_residual-in_err-put_sum.result c.from_residual-in_err-put_sum.ensures.1 in
    Sends-then g.K.Sink c.args.sink.now c.send.new.sink c.put_sum.new.sink c.args.waiting.now c.send.new.waiting
    c.put_sum.new.waiting (codes "min: ") (sum_text c.args.terms.now ++ codes ";\n") c.from_residual-in_err-put_sum.result
    c.in_ok-send.ensures
    (Sends-exit g.K.Sink c.send.new.sink c.put_sum.new.sink c.send.new.waiting c.put_sum.new.waiting
    c.put_sum.new.waiting (sum_text c.args.terms.now) (codes ";\n") c.in_err-put_sum.field-0.0
    c.from_residual-in_err-put_sum.result p.0 p.1 c.in_err-put_sum.ensures.sends)

pub returns-clause-sends : goal.returns-clause-sends
returns-clause-sends g c =
    Sends-then g.K.Sink c.args.sink.now c.send.new.sink c.send-2.new.sink c.args.waiting.now c.send.new.waiting
    c.send-2.new.waiting (codes "min: ") (sum_text c.args.terms.now ++ codes ";\n") c.send-2.result
    c.in_ok-send.ensures
    (Sends-then g.K.Sink c.send.new.sink c.put_sum.new.sink c.send-2.new.sink c.send.new.waiting c.put_sum.new.waiting
    c.send-2.new.waiting (sum_text c.args.terms.now) (codes ";\n") c.send-2.result c.in_ok-put_sum.ensures.sends
    c.send-2.ensures)

pub returns-clause-small : goal.returns-clause-small
returns-clause-small g c = OnOk-holds c.send-2.result c.in_ok-put_sum.ensures.small
