use Rattle.explain.proofs.NamedLemmas.{AreNamedSoFar}
use Rattle.explain.proofs.names.named_of.Given as goal

abbrev pub invariant-loop-place : goal.invariant-loop-place
invariant-loop-place l = AreNamedSoFar l.encoding l.numbers l.log l.named.items l.place
