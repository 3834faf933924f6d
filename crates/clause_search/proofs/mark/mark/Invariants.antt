use Rattle.clause_search.specs.Marks.{Marks}
use Rattle.clause_search.proofs.mark.mark.Given as goal

abbrev pub invariant-loop-term : goal.invariant-loop-term
invariant-loop-term l = Marks l.trail.entries l.terms l.term-index l.limit l.start l.lowest l.fn.roles l.roles l.now
