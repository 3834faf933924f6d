use Rattle.opb_forms.specs.SeenSystem.{system_of}
use Rattle.opb_forms.specs.Texts.{opb_text}
use Rattle.opb_forms.proofs.StreamLemmas.{whole-calls, whole-cut, whole-written}
use Rattle.opb_forms.proofs.TextLemmas.{reads-back}
use Rattle.opb_forms.proofs.system_out.put_system.Goals as goal

pub returns-clause-ok : goal.returns-clause-ok
returns-clause-ok g c =
    whole-written (g.K.Sink.written c.args.sink.now) (g.K.Sink.written c.put_text.new.sink) c.args.waiting.now
    c.put_text.new.waiting (opb_text (system_of c.args.vars c.args.least c.args.rows.now)) c.put_text.result
    c.requires.none c.put_text.ensures.sends.ok c.put_text.ensures.none

pub returns-clause-reads_back : goal.returns-clause-reads_back
returns-clause-reads_back g c =
    reads-back (system_of c.args.vars c.args.least c.args.rows.now) c.put_text.result c.put_text.ensures.small
    c.requires.coefs c.put_text.ensures.rows

pub returns-clause-err : goal.returns-clause-err
returns-clause-err g c =
    whole-cut (g.K.Sink.written c.args.sink.now) (g.K.Sink.written c.put_text.new.sink) c.args.waiting.now
    (opb_text (system_of c.args.vars c.args.least c.args.rows.now)) c.put_text.result
    c.requires.none c.put_text.ensures.sends.err

pub returns-clause-calls : goal.returns-clause-calls
returns-clause-calls g c =
    whole-calls (g.K.Sink.calls c.args.sink.now) (g.K.Sink.calls c.put_text.new.sink) c.args.waiting.now
    c.put_text.new.waiting (opb_text (system_of c.args.vars c.args.least c.args.rows.now)) c.put_text.result
    c.requires.none c.put_text.ensures.sends.calls c.put_text.ensures.sends.cut_calls
