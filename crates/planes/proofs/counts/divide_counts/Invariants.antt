use Rattle.std.proofs.Common.{◌≡◌, take}
use Rattle.std.specs.List.{fold}
use Rattle.planes.specs.Coefs.{counts_divided}
use Rattle.planes.proofs.counts.divide_counts.Given as goal

abbrev pub invariant-loop-lit : goal.invariant-loop-lit
invariant-loop-lit l = l.coefs ≡ fold (counts_divided l.divisor) l.initial.coefs (take l.lit-index l.touched)
