use Rattle.std.proofs.Common.{◌≡◌, ◌+◌, ◌≤◌, length, Some, inl, inr, refl, subst}
use Rattle.std.specs.Io.KnownBytes.{Appends}
use Rattle.robin_io.specs.Written.{AppendsPrefix}
use Rattle.opb_forms.specs.Opb.{opb_of}
use Rattle.opb_forms.specs.Systems.{System}
use Rattle.opb_forms.specs.Texts.{opb_text}
use Rattle.command_rows.proofs.written.write_rows.Goals as goal

pub returns-in-Ok-clause-written : goal.returns-in-Ok-clause-written
returns-in-Ok-clause-written g c =
    inl (
      refl,
      subst (λ (s : System). Appends (g.K.Sink.written c.args.out.now) (g.K.Sink.written c.put_kept.new.out) (opb_text s))
          c.ready.view_is c.in-Ok.ensures.ok,
    )

pub returns-in-Ok-clause-reads_back : goal.returns-in-Ok-clause-reads_back
returns-in-Ok-clause-reads_back g c = λ ended.
    subst (λ (s : System). opb_of (opb_text s) ≡ Some s) c.ready.view_is c.in-Ok.ensures.reads_back

pub returns-clause-written : goal.returns-clause-written
returns-clause-written g c =
    inr (
      refl,
      c.in-Err.ensures.cause.fault,
      subst
          (λ (s : System). AppendsPrefix (g.K.Sink.written c.args.out.now) (g.K.Sink.written c.put_kept.new.out)
          (opb_text s))
          c.ready.view_is c.in-Err.ensures.err,
    )

pub returns-in-Ok-clause-calls : goal.returns-in-Ok-clause-calls
returns-in-Ok-clause-calls g c =
    subst
    (λ (s : System). g.K.Sink.calls c.put_kept.new.out ≤ g.K.Sink.calls c.args.out.now + length (opb_text s))
    c.ready.view_is c.put_kept.ensures.calls

pub returns-clause-calls : goal.returns-clause-calls
returns-clause-calls g c =
    subst
    (λ (s : System). g.K.Sink.calls c.put_kept.new.out ≤ g.K.Sink.calls c.args.out.now + length (opb_text s))
    c.ready.view_is c.put_kept.ensures.calls
