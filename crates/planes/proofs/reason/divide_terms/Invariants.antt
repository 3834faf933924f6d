use Rattle.std.proofs.Common.{◌≡◌, ◌++◌, drop, map, take}
use Rattle.planes.specs.Dividing.{divided_term}
use Rattle.planes.proofs.reason.divide_terms.Given as goal

abbrev pub invariant-loop-term : goal.invariant-loop-term
invariant-loop-term l =
    l.terms ≡ map (divided_term l.divisor) (take l.term-index l.initial.terms) ++ drop l.term-index l.initial.terms
