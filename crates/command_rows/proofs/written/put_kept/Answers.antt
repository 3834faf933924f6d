use Rattle.std.proofs.Common.{◌≡◌, ◌+◌, ◌≤◌, length, None, Some, ap, subst, sym, ◌∙◌}
use Rattle.std.specs.Prelude.{OnErr, OnOk}
use Rattle.std.specs.Io.KnownBytes.{Appends}
use Rattle.robin_io.specs.Written.{AppendsPrefix}
use Rattle.encoding.specs.Encoding.{rows_of}
use Rattle.encoding.specs.Variables.{var_count}
use Rattle.bound_rows.specs.BoundRows.{bound_rows, bound_vars}
use Rattle.opb_forms.specs.Opb.{opb_of}
use Rattle.opb_forms.specs.Systems.{System}
use Rattle.opb_forms.specs.Texts.{opb_text}
use Rattle.command_rows.specs.SeenRows.{system_kept}
use Rattle.command_rows.proofs.RowsLemmas.{same-priced, same-system}
use Rattle.command_rows.proofs.written.put_kept.Goals as goal

pub returns-in-League-clause-ok : goal.returns-in-League-clause-ok
returns-in-League-clause-ok g c =
    let put : System = record { vars = c.vars.result; least = None; rows = c.rows.result.now } in
    let same : put ≡ system_kept c.args.kept.now =
    same-system c.vars.result (var_count c.in-League.encoding) c.rows.result.now
    (rows_of c.in-League.encoding) c.vars.ensures.vars c.rows.ensures ∙ sym (ap system_kept c.in-League.is) in
    subst
    (λ (s : System). OnOk c.put_system.result (Appends (g.K.Sink.written c.args.out.now)
    (g.K.Sink.written c.put_system.new.sink) (opb_text s)))
    same c.put_system.ensures.ok

pub returns-in-League-clause-err : goal.returns-in-League-clause-err
returns-in-League-clause-err g c =
    let put : System = record { vars = c.vars.result; least = None; rows = c.rows.result.now } in
    let same : put ≡ system_kept c.args.kept.now =
    same-system c.vars.result (var_count c.in-League.encoding) c.rows.result.now
    (rows_of c.in-League.encoding) c.vars.ensures.vars c.rows.ensures ∙ sym (ap system_kept c.in-League.is) in
    subst
    (λ (s : System). OnErr c.put_system.result (AppendsPrefix (g.K.Sink.written c.args.out.now)
    (g.K.Sink.written c.put_system.new.sink) (opb_text s)))
    same c.put_system.ensures.err

pub returns-in-Bound-clause-ok : goal.returns-in-Bound-clause-ok
returns-in-Bound-clause-ok g c =
    let put : System = record { vars = c.vars-in-Bound.result; least = None; rows = c.rows-in-Bound.result.now } in
    let same : put ≡ system_kept c.args.kept.now =
    same-system c.vars-in-Bound.result (bound_vars c.in-Bound.system.league) c.rows-in-Bound.result.now
    (bound_rows c.in-Bound.system.league c.in-Bound.system.bound) c.vars-in-Bound.ensures.vars c.rows-in-Bound.ensures ∙ sym (ap system_kept c.in-Bound.is) in
    subst
    (λ (s : System). OnOk c.put_system-in-Bound.result (Appends (g.K.Sink.written c.args.out.now)
    (g.K.Sink.written c.put_system-in-Bound.new.sink) (opb_text s)))
    same c.put_system-in-Bound.ensures.ok

pub returns-in-Bound-clause-err : goal.returns-in-Bound-clause-err
returns-in-Bound-clause-err g c =
    let put : System = record { vars = c.vars-in-Bound.result; least = None; rows = c.rows-in-Bound.result.now } in
    let same : put ≡ system_kept c.args.kept.now =
    same-system c.vars-in-Bound.result (bound_vars c.in-Bound.system.league) c.rows-in-Bound.result.now
    (bound_rows c.in-Bound.system.league c.in-Bound.system.bound) c.vars-in-Bound.ensures.vars c.rows-in-Bound.ensures ∙ sym (ap system_kept c.in-Bound.is) in
    subst
    (λ (s : System). OnErr c.put_system-in-Bound.result (AppendsPrefix (g.K.Sink.written c.args.out.now)
    (g.K.Sink.written c.put_system-in-Bound.new.sink) (opb_text s)))
    same c.put_system-in-Bound.ensures.err

pub returns-in-Least-clause-ok : goal.returns-in-Least-clause-ok
returns-in-Least-clause-ok g c =
    let put : System = record {
      vars = c.vars-in-Least.result;
      least = Some c.as_slice.result.now;
      rows = c.rows-in-Least.result.now;
    } in
    let same : put ≡ system_kept c.args.kept.now =
    same-priced c.vars-in-Least.result (bound_vars c.in-Least.system.league) c.as_slice.result.now c.in-Least.prices.items
    c.rows-in-Least.result.now (bound_rows c.in-Least.system.league c.in-Least.system.bound)
    c.vars-in-Least.ensures.vars c.as_slice.ensures.value c.rows-in-Least.ensures ∙ sym (ap system_kept c.in-Least.is) in
    subst
    (λ (s : System). OnOk c.put_system-in-Least.result (Appends (g.K.Sink.written c.args.out.now)
    (g.K.Sink.written c.put_system-in-Least.new.sink) (opb_text s)))
    same c.put_system-in-Least.ensures.ok

pub returns-in-Least-clause-err : goal.returns-in-Least-clause-err
returns-in-Least-clause-err g c =
    let put : System = record {
      vars = c.vars-in-Least.result;
      least = Some c.as_slice.result.now;
      rows = c.rows-in-Least.result.now;
    } in
    let same : put ≡ system_kept c.args.kept.now =
    same-priced c.vars-in-Least.result (bound_vars c.in-Least.system.league) c.as_slice.result.now c.in-Least.prices.items
    c.rows-in-Least.result.now (bound_rows c.in-Least.system.league c.in-Least.system.bound)
    c.vars-in-Least.ensures.vars c.as_slice.ensures.value c.rows-in-Least.ensures ∙ sym (ap system_kept c.in-Least.is) in
    subst
    (λ (s : System). OnErr c.put_system-in-Least.result (AppendsPrefix (g.K.Sink.written c.args.out.now)
    (g.K.Sink.written c.put_system-in-Least.new.sink) (opb_text s)))
    same c.put_system-in-Least.ensures.err

pub returns-in-Least-clause-reads_back : goal.returns-in-Least-clause-reads_back
returns-in-Least-clause-reads_back g c =
    let put : System = record {
      vars = c.vars-in-Least.result;
      least = Some c.as_slice.result.now;
      rows = c.rows-in-Least.result.now;
    } in
    let same : put ≡ system_kept c.args.kept.now =
    same-priced c.vars-in-Least.result (bound_vars c.in-Least.system.league) c.as_slice.result.now c.in-Least.prices.items
    c.rows-in-Least.result.now (bound_rows c.in-Least.system.league c.in-Least.system.bound)
    c.vars-in-Least.ensures.vars c.as_slice.ensures.value c.rows-in-Least.ensures ∙ sym (ap system_kept c.in-Least.is) in
    subst (λ (s : System). OnOk c.put_system-in-Least.result (opb_of (opb_text s) ≡ Some s)) same
    c.put_system-in-Least.ensures.reads_back

pub returns-in-League-clause-calls : goal.returns-in-League-clause-calls
returns-in-League-clause-calls g c =
    let put : System = record { vars = c.vars.result; least = None; rows = c.rows.result.now } in
    let same : put ≡ system_kept c.args.kept.now =
    same-system c.vars.result (var_count c.in-League.encoding) c.rows.result.now
    (rows_of c.in-League.encoding) c.vars.ensures.vars c.rows.ensures ∙ sym (ap system_kept c.in-League.is) in
    subst
    (λ (s : System). g.K.Sink.calls c.put_system.new.sink ≤ g.K.Sink.calls c.args.out.now + length (opb_text s))
    same c.put_system.ensures.calls

pub returns-in-Bound-clause-calls : goal.returns-in-Bound-clause-calls
returns-in-Bound-clause-calls g c =
    let put : System = record { vars = c.vars-in-Bound.result; least = None; rows = c.rows-in-Bound.result.now } in
    let same : put ≡ system_kept c.args.kept.now =
    same-system c.vars-in-Bound.result (bound_vars c.in-Bound.system.league) c.rows-in-Bound.result.now
    (bound_rows c.in-Bound.system.league c.in-Bound.system.bound) c.vars-in-Bound.ensures.vars c.rows-in-Bound.ensures ∙ sym (ap system_kept c.in-Bound.is) in
    subst
    (λ (s : System). g.K.Sink.calls c.put_system-in-Bound.new.sink ≤ g.K.Sink.calls c.args.out.now + length (opb_text s))
    same c.put_system-in-Bound.ensures.calls

pub returns-in-Least-clause-calls : goal.returns-in-Least-clause-calls
returns-in-Least-clause-calls g c =
    let put : System = record {
      vars = c.vars-in-Least.result;
      least = Some c.as_slice.result.now;
      rows = c.rows-in-Least.result.now;
    } in
    let same : put ≡ system_kept c.args.kept.now =
    same-priced c.vars-in-Least.result (bound_vars c.in-Least.system.league) c.as_slice.result.now c.in-Least.prices.items
    c.rows-in-Least.result.now (bound_rows c.in-Least.system.league c.in-Least.system.bound)
    c.vars-in-Least.ensures.vars c.as_slice.ensures.value c.rows-in-Least.ensures ∙ sym (ap system_kept c.in-Least.is) in
    subst
    (λ (s : System). g.K.Sink.calls c.put_system-in-Least.new.sink ≤ g.K.Sink.calls c.args.out.now + length (opb_text s))
    same c.put_system-in-Least.ensures.calls
