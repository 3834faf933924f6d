use Rattle.std.proofs.Common.{◌≡◌, map, take}
use Rattle.rows.specs.Cardinality.{unit}
use Rattle.propagate.proofs.clauses.Clause.new.Given as goal

abbrev pub invariant-loop-literal : goal.invariant-loop-literal
invariant-loop-literal l = record {
  so_far : l.terms.items ≡ map unit (take l.literal-index l.literals);
}
