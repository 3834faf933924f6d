use Rattle.std.proofs.Common.{◌≡◌, ◌++◌}
use Rattle.bound_rows.specs.Softening.{costs_from}
use Rattle.bound_rows.proofs.units.add_costs.Given as goal

abbrev pub invariant-loop-k : goal.invariant-loop-k
invariant-loop-k l = l.terms.items ≡ l.fn.terms.items ++ costs_from l.penalty l.first l.k
