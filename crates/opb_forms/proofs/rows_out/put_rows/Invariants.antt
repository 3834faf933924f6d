use Rattle.std.proofs.Common.{Ok, take}
use Rattle.std.specs.List.{All}
use Rattle.opb_forms.specs.Streams.{Sends}
use Rattle.opb_forms.specs.Systems.{IsSmallRow}
use Rattle.opb_forms.specs.Texts.{rows_text}
use Rattle.opb_forms.proofs.rows_out.put_rows.Given as goal

abbrev pub invariant-loop-k : goal.invariant-loop-k
invariant-loop-k g l = record {
  sent : Sends g.K.Sink l.fn.sink l.sink l.fn.waiting l.waiting (rows_text (take l.k l.rows)) (Ok tt);
  small : All IsSmallRow (take l.k l.rows);
}
