use Rattle.std.proofs.Common.{[]}
use Rattle.std.proofs.lemmas.Result.{err_from_is_err_and}
use Rattle.opb_forms.specs.Texts.{heading_text}
use Rattle.opb_forms.proofs.StreamLemmas.{Sends-exit, Sends-more}
use Rattle.opb_forms.proofs.system_out.put_heading.Goals as goal

pub returns-in_err-make_room : goal.returns-in_err-make_room
returns-in_err-make_room g c =
    let p = err_from_is_err_and c.from_residual.result c.from_residual.ensures.1 in
    Sends-exit g.K.Sink c.args.sink.now c.make_room.new.sink c.args.waiting.now c.make_room.new.waiting
    c.make_room.new.waiting [] (heading_text c.args.vars c.args.count) c.in_err-make_room.field-0.0
    c.from_residual.result p.0 p.1 c.in_err-make_room.ensures.sends

pub returns : goal.returns
returns g c =
    Sends-more g.K.Sink c.args.sink.now c.make_room.new.sink c.args.waiting.now c.make_room.new.waiting
    c.add_heading.new.waiting (heading_text c.args.vars c.args.count) c.in_ok-make_room.ensures.sends
    c.add_heading.ensures
