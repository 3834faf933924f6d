use Rattle.std.proofs.Common.{◌≡◌, length}
use Rattle.propagate.proofs.LinkLemmas.{IsLinking}
use Rattle.propagate.proofs.table.link_terms.Given as goal

abbrev pub invariant-loop-term : goal.invariant-loop-term
invariant-loop-term l = record {
  linking : IsLinking l.numbered l.terms l.k l.term-index l.lists;
  slots : length l.lists ≡ length l.fn.lists;
}
