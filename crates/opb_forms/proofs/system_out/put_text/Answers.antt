use Rattle.std.proofs.Common.{◌≡◌, ℕ, [], ◌++◌, Err, Ok, append-nil, length, arith, ap, ◌∙◌}
use Rattle.std.proofs.lemmas.Result.{err_from_is_err_and}
use Rattle.opb_forms.specs.SeenSystem.{system_of}
use Rattle.opb_forms.specs.Systems.{System}
use Rattle.opb_forms.specs.Texts.{heading_text, least_text, rows_text}
use Rattle.opb_forms.proofs.StreamLemmas.{OnOk-holds, Sends-exit, Sends-same, Sends-then}
use Rattle.opb_forms.proofs.system_out.put_text.Goals as goal

pub returns-in_err-put_heading-clause-sends : goal.returns-in_err-put_heading-clause-sends
returns-in_err-put_heading-clause-sends g c =
    let p = err_from_is_err_and c.from_residual.result c.from_residual.ensures.1 in
    let system : System = system_of c.args.vars c.args.least c.args.rows.now in
    let vars : c.from.result ≡ c.args.vars = omega (arith, c.from.ensures) in
    let head = Sends-same g.K.Sink c.args.sink.now c.put_heading.new.sink c.args.waiting.now c.put_heading.new.waiting
    (heading_text c.from.result c.len.result) (heading_text system.vars (length system.rows)) (Err c.in_err-put_heading.field-0.0)
    (ap (λ (n : ℕ). heading_text n c.len.result) vars ∙ ap (heading_text c.args.vars) c.len.ensures.len)
    c.in_err-put_heading.ensures in
    Sends-exit g.K.Sink c.args.sink.now c.put_heading.new.sink c.args.waiting.now c.put_heading.new.waiting
    c.put_heading.new.waiting (heading_text system.vars (length system.rows))
    (least_text system.least ++ rows_text system.rows) c.in_err-put_heading.field-0.0
    c.from_residual.result p.0 p.1 head

pub returns-in_err-put_least-clause-sends : goal.returns-in_err-put_least-clause-sends
returns-in_err-put_least-clause-sends g c =
    let p = err_from_is_err_and c.from_residual-in_err-put_least.result c.from_residual-in_err-put_least.ensures.1 in
    let system : System = system_of c.args.vars c.args.least c.args.rows.now in
    let vars : c.from.result ≡ c.args.vars = omega (arith, c.from.ensures) in
    let head = Sends-same g.K.Sink c.args.sink.now c.put_heading.new.sink c.args.waiting.now c.put_heading.new.waiting
    (heading_text c.from.result c.len.result) (heading_text system.vars (length system.rows)) (Ok tt)
    (ap (λ (n : ℕ). heading_text n c.len.result) vars ∙ ap (heading_text c.args.vars) c.len.ensures.len)
    c.in_ok-put_heading.ensures in
    Sends-then g.K.Sink c.args.sink.now c.put_heading.new.sink c.put_least.new.sink c.args.waiting.now
    c.put_heading.new.waiting c.put_least.new.waiting (heading_text system.vars (length system.rows))
    (least_text system.least ++ rows_text system.rows) c.from_residual-in_err-put_least.result head
    (Sends-exit g.K.Sink c.put_heading.new.sink c.put_least.new.sink c.put_heading.new.waiting c.put_least.new.waiting
    c.put_least.new.waiting (least_text system.least) (rows_text system.rows) c.in_err-put_least.field-0.0
    c.from_residual-in_err-put_least.result p.0 p.1 c.in_err-put_least.ensures.sends)

pub returns-in_err-put_rows-clause-sends : goal.returns-in_err-put_rows-clause-sends
returns-in_err-put_rows-clause-sends g c =
    let p = err_from_is_err_and c.from_residual-in_err-put_rows.result c.from_residual-in_err-put_rows.ensures.1 in
    let system : System = system_of c.args.vars c.args.least c.args.rows.now in
    let vars : c.from.result ≡ c.args.vars = omega (arith, c.from.ensures) in
    let head = Sends-same g.K.Sink c.args.sink.now c.put_heading.new.sink c.args.waiting.now c.put_heading.new.waiting
    (heading_text c.from.result c.len.result) (heading_text system.vars (length system.rows)) (Ok tt)
    (ap (λ (n : ℕ). heading_text n c.len.result) vars ∙ ap (heading_text c.args.vars) c.len.ensures.len)
    c.in_ok-put_heading.ensures in
    Sends-then g.K.Sink c.args.sink.now c.put_heading.new.sink c.put_rows.new.sink c.args.waiting.now
    c.put_heading.new.waiting c.put_rows.new.waiting (heading_text system.vars (length system.rows))
    (least_text system.least ++ rows_text system.rows) c.from_residual-in_err-put_rows.result head
    (Sends-then g.K.Sink c.put_heading.new.sink c.put_least.new.sink c.put_rows.new.sink c.put_heading.new.waiting
    c.put_least.new.waiting c.put_rows.new.waiting (least_text system.least) (rows_text system.rows)
    c.from_residual-in_err-put_rows.result c.in_ok-put_least.ensures.sends
    (Sends-same g.K.Sink c.put_least.new.sink c.put_rows.new.sink c.put_least.new.waiting c.put_rows.new.waiting
    (rows_text system.rows ++ []) (rows_text system.rows) c.from_residual-in_err-put_rows.result (append-nil (rows_text system.rows))
    (Sends-exit g.K.Sink c.put_least.new.sink c.put_rows.new.sink c.put_least.new.waiting c.put_rows.new.waiting
    c.put_rows.new.waiting (rows_text system.rows) [] c.in_err-put_rows.field-0.0
    c.from_residual-in_err-put_rows.result p.0 p.1 c.in_err-put_rows.ensures.sends)))

pub returns-clause-sends : goal.returns-clause-sends
returns-clause-sends g c =
    let system : System = system_of c.args.vars c.args.least c.args.rows.now in
    let vars : c.from.result ≡ c.args.vars = omega (arith, c.from.ensures) in
    let head = Sends-same g.K.Sink c.args.sink.now c.put_heading.new.sink c.args.waiting.now c.put_heading.new.waiting
    (heading_text c.from.result c.len.result) (heading_text system.vars (length system.rows)) (Ok tt)
    (ap (λ (n : ℕ). heading_text n c.len.result) vars ∙ ap (heading_text c.args.vars) c.len.ensures.len)
    c.in_ok-put_heading.ensures in
    Sends-then g.K.Sink c.args.sink.now c.put_heading.new.sink c.flush.new.sink c.args.waiting.now
    c.put_heading.new.waiting c.flush.new.waiting (heading_text system.vars (length system.rows))
    (least_text system.least ++ rows_text system.rows) c.flush.result head
    (Sends-then g.K.Sink c.put_heading.new.sink c.put_least.new.sink c.flush.new.sink c.put_heading.new.waiting
    c.put_least.new.waiting c.flush.new.waiting (least_text system.least) (rows_text system.rows)
    c.flush.result c.in_ok-put_least.ensures.sends
    (Sends-same g.K.Sink c.put_least.new.sink c.flush.new.sink c.put_least.new.waiting c.flush.new.waiting
    (rows_text system.rows ++ []) (rows_text system.rows) c.flush.result (append-nil (rows_text system.rows))
    (Sends-then g.K.Sink c.put_least.new.sink c.put_rows.new.sink c.flush.new.sink c.put_least.new.waiting
    c.put_rows.new.waiting c.flush.new.waiting (rows_text system.rows) [] c.flush.result
    c.in_ok-put_rows.ensures.sends c.flush.ensures.sends)))

pub returns-clause-small : goal.returns-clause-small
returns-clause-small g c =
    OnOk-holds c.flush.result (record {
      vars = omega arith;
      count = omega (arith, c.len.ensures.len, c.len.ensures.few);
      least = c.in_ok-put_least.ensures.small;
      rows = c.in_ok-put_rows.ensures.small;
    })
