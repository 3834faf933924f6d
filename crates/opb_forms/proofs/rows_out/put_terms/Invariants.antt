use Rattle.std.proofs.Common.{Ok, take}
use Rattle.std.specs.List.{All}
use Rattle.opb_forms.specs.Streams.{Sends}
use Rattle.opb_forms.specs.Systems.{IsSmallTerm}
use Rattle.opb_forms.specs.Texts.{terms_text}
use Rattle.opb_forms.proofs.rows_out.put_terms.Given as goal

abbrev pub invariant-loop-term : goal.invariant-loop-term
invariant-loop-term g l = record {
  sent : Sends g.K.Sink l.fn.sink l.sink l.fn.waiting l.waiting (terms_text (take l.term-index l.terms)) (Ok tt);
  small : All IsSmallTerm (take l.term-index l.terms);
}
