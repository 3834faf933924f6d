use Rattle.std.proofs.Common.{◌≡◌, ◌++◌, length}
use Rattle.refutation.specs.Lines.{paired}
use Rattle.refutation.proofs.line.pair_up.Given as goal

abbrev pub invariant-pairs : goal.invariant-pairs
invariant-pairs l = l.parts.items ++ paired l.rest ≡ l.initial.parts.items ++ paired l.fn.numbers

abbrev pub decreases-pairs : goal.decreases-pairs
decreases-pairs l = length l.rest
