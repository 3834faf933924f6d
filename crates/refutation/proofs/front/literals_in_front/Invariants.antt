use Rattle.std.proofs.Common.{length}
use Rattle.refutation.specs.Texts.{literal_text}
use Rattle.refutation.specs.Written.{IsVariable}
use Rattle.refutation.specs.Fronts.{StandInFront}
use Rattle.refutation.proofs.front.literals_in_front.Given as goal

abbrev pub invariant-literals : goal.invariant-literals
invariant-literals l = StandInFront literal_text IsVariable l.fn.bytes l.rest l.initial.literals.items l.literals.items

abbrev pub decreases-literals : goal.decreases-literals
decreases-literals l = length l.rest
