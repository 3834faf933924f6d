use Rattle.std.proofs.Common.{ℕ, ◌+◌, ◌<◌, ◌≤◌, ◌++◌, List, Err, Ok, length, drop, take, arith, ap, subst, sym}
use Rattle.std.specs.List.{All}
use Rattle.std.proofs.lemmas.List.{take_all}
use Rattle.std.proofs.lemmas.List.Elements.{All-nil}
use Rattle.rows.specs.Rows.{Row}
use Rattle.std.proofs.lemmas.Result.{err_from_is_err_and}
use Rattle.opb_forms.specs.Systems.{IsSmallRow}
use Rattle.opb_forms.specs.Texts.{row_text, rows_text}
use Rattle.opb_forms.proofs.StreamLemmas.{All-next, Sends-exit, Sends-none, Sends-same, Sends-then, row-got, text-more}
use Rattle.opb_forms.proofs.StreamLemmas.{text-parts}
use Rattle.opb_forms.proofs.rows_out.put_rows.Goals as goal

pub loop-k-init : goal.loop-k-init
loop-k-init g c = record {
  sent = Sends-none g.K.Sink c.args.sink.now c.args.waiting.now;
  small = All-nil IsSmallRow;
}

pub loop-k-preserved : goal.loop-k-preserved
loop-k-preserved g c =
    let rows : List Row = c.args.rows.now in
    let k : ℕ = c.loop-k.k in
    let row : Row = record { terms = c.terms.result.now; degree = c.degree.result } in
    let there : k < length rows = omega arith in
    let is = row-got rows k c.terms.result.now c.degree.result there c.terms.ensures c.degree.ensures in
    record {
      sent = Sends-same g.K.Sink c.args.sink.now c.put_row.new.sink c.args.waiting.now c.put_row.new.waiting
          (rows_text (take k rows) ++ row_text row) (rows_text (take (k + 1) rows)) (Ok tt)
          (sym (text-more row_text rows k row there is))
          (Sends-then g.K.Sink c.args.sink.now c.loop-k.sink c.put_row.new.sink c.args.waiting.now c.loop-k.waiting
          c.put_row.new.waiting (rows_text (take k rows)) (row_text row) (Ok tt) c.loop-k.invariant.sent
          c.in_ok-put_row.ensures.sends);
      small = All-next IsSmallRow rows k row there is c.loop-k.invariant.small c.in_ok-put_row.ensures.small;
    }

pub returns-in_err-put_row-clause-sends : goal.returns-in_err-put_row-clause-sends
returns-in_err-put_row-clause-sends g c =
    let p = err_from_is_err_and c.from_residual.result c.from_residual.ensures.1 in
    let rows : List Row = c.args.rows.now in
    let k : ℕ = c.loop-k.k in
    let row : Row = record { terms = c.terms.result.now; degree = c.degree.result } in
    let there : k < length rows = omega arith in
    let is = row-got rows k c.terms.result.now c.degree.result there c.terms.ensures c.degree.ensures in
    Sends-same g.K.Sink c.args.sink.now c.put_row.new.sink c.args.waiting.now c.put_row.new.waiting
    ((rows_text (take k rows) ++ row_text row) ++ rows_text (drop (k + 1) rows)) (rows_text rows) c.from_residual.result
    (text-parts row_text rows k row there is)
    (Sends-exit g.K.Sink c.args.sink.now c.put_row.new.sink c.args.waiting.now c.put_row.new.waiting
    c.put_row.new.waiting (rows_text (take k rows) ++ row_text row) (rows_text (drop (k + 1) rows))
    c.in_err-put_row.field-0.0 c.from_residual.result p.0 p.1
    (Sends-then g.K.Sink c.args.sink.now c.loop-k.sink c.put_row.new.sink c.args.waiting.now c.loop-k.waiting
    c.put_row.new.waiting (rows_text (take k rows)) (row_text row) (Err c.in_err-put_row.field-0.0)
    c.loop-k.invariant.sent c.in_err-put_row.ensures.sends))

pub returns-clause-sends : goal.returns-clause-sends
returns-clause-sends g c =
    let past : length c.args.rows.now ≤ c.loop-k.k = omega arith in
    Sends-same g.K.Sink c.args.sink.now c.loop-k.sink c.args.waiting.now c.loop-k.waiting
    (rows_text (take c.loop-k.k c.args.rows.now)) (rows_text c.args.rows.now) (Ok tt)
    (ap rows_text (take_all c.loop-k.k c.args.rows.now past)) c.loop-k.invariant.sent

pub returns-clause-small : goal.returns-clause-small
returns-clause-small g c =
    let past : length c.args.rows.now ≤ c.loop-k.k = omega arith in
    subst (All IsSmallRow) (take_all c.loop-k.k c.args.rows.now past) c.loop-k.invariant.small
