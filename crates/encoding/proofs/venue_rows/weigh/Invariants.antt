use Rattle.std.proofs.Common.{◌≡◌, map, take}
use Rattle.rows.specs.Cardinality.{unit}
use Rattle.rows.specs.Literals.{negate}
use Rattle.encoding.proofs.venue_rows.weigh.Given as goal

abbrev pub invariant-loop-literal : goal.invariant-loop-literal
invariant-loop-literal l = l.terms.items ≡ map unit (map negate (take l.literal-index l.literals))
