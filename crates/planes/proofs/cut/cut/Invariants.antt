use Rattle.planes.specs.Small.{AreSmall}
use Rattle.planes.proofs.cut.cut.Given as goal

abbrev pub invariant-loop-back : goal.invariant-loop-back
invariant-loop-back l = AreSmall l.tools.plane.counts
