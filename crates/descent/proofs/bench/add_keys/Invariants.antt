use Rattle.std.proofs.Common.{take}
use Rattle.descent.specs.KeySet.{AreAdded}
use Rattle.descent.proofs.bench.add_keys.Given as goal

abbrev pub invariant-loop-place : goal.invariant-loop-place
invariant-loop-place l = AreAdded (take l.place l.keys.list) l.initial.found l.found
