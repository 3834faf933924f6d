use Rattle.std.proofs.Common.{◌≡◌}
use Rattle.planes.proofs.cut.lowest_conflict.Given as goal

abbrev pub invariant-loop-back : goal.invariant-loop-back
invariant-loop-back l = l.tools.plane.counts ≡ l.initial.tools.plane.counts
