use Rattle.std.proofs.Common.{length}
use Rattle.refutation.specs.Texts.{part_text}
use Rattle.refutation.specs.Fronts.{ArePartHints, StandInFront}
use Rattle.refutation.proofs.front.parts_in_front.Given as goal

abbrev pub invariant-parts : goal.invariant-parts
invariant-parts l = StandInFront part_text ArePartHints l.fn.bytes l.rest l.initial.parts.items l.parts.items

abbrev pub decreases-parts : goal.decreases-parts
decreases-parts l = length l.rest
