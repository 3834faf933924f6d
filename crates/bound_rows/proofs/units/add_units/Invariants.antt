use Rattle.std.proofs.Common.{◌≡◌, ◌++◌, map}
use Rattle.rows.specs.Cardinality.{unit}
use Rattle.bound_rows.specs.Softening.{units_from}
use Rattle.bound_rows.proofs.units.add_units.Given as goal

abbrev pub invariant-loop-k : goal.invariant-loop-k
invariant-loop-k l = l.terms.items ≡ l.fn.terms.items ++ map unit (units_from l.first l.k)
