use Rattle.std.proofs.Common.{[]}
use Rattle.std.proofs.lemmas.Result.{err_from_is_err_and}
use Rattle.opb_forms.specs.Texts.{term_text}
use Rattle.opb_forms.proofs.StreamLemmas.{Sends-exit, Sends-more}
use Rattle.opb_forms.proofs.rows_out.put_term.Goals as goal

pub returns-in_err-make_room-clause-sends : goal.returns-in_err-make_room-clause-sends
returns-in_err-make_room-clause-sends g c =
    let p = err_from_is_err_and c.from_residual.result c.from_residual.ensures.1 in
    Sends-exit g.K.Sink c.args.sink.now c.make_room.new.sink c.args.waiting.now c.make_room.new.waiting
    c.make_room.new.waiting [] (term_text c.args.term) c.in_err-make_room.field-0.0 c.from_residual.result p.0 p.1
    c.in_err-make_room.ensures.sends

pub returns-clause-sends : goal.returns-clause-sends
returns-clause-sends g c =
    Sends-more g.K.Sink c.args.sink.now c.make_room.new.sink c.args.waiting.now c.make_room.new.waiting
    c.add_term.new.waiting (term_text c.args.term) c.in_ok-make_room.ensures.sends c.add_term.ensures.text
