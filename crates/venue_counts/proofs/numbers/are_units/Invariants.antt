use Rattle.std.proofs.Common.{◌≡◌, map, take}
use Rattle.rows.specs.Cardinality.{unit}
use Rattle.venue_counts.proofs.numbers.are_units.Given as goal

abbrev pub invariant-loop-k : goal.invariant-loop-k
invariant-loop-k l = take l.k l.terms ≡ map unit (take l.k l.literals)
