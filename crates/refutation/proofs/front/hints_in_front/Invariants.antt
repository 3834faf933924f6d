use Rattle.std.proofs.Common.{length}
use Rattle.refutation.specs.Texts.{number_text}
use Rattle.refutation.specs.Fronts.{IsHint, StandInFront}
use Rattle.refutation.proofs.front.hints_in_front.Given as goal

abbrev pub invariant-hints : goal.invariant-hints
invariant-hints l = StandInFront number_text IsHint l.fn.bytes l.rest l.initial.hints.items l.hints.items

abbrev pub decreases-hints : goal.decreases-hints
decreases-hints l = length l.rest
