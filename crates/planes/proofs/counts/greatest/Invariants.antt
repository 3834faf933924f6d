use Rattle.std.proofs.Common.{take}
use Rattle.planes.specs.Coefs.{AreAtMost}
use Rattle.planes.proofs.counts.greatest.Given as goal

abbrev pub invariant-loop-lit : goal.invariant-loop-lit
invariant-loop-lit l = AreAtMost l.most l.coefs (take l.lit-index l.touched)
