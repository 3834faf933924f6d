use Rattle.std.proofs.Common.{◌≡◌, ◌-◌, take}
use Rattle.rows.specs.Rows.{weight}
use Rattle.rows.specs.Values.{assigned}
use Rattle.command_rows.proofs.met.is_met.Given as goal

abbrev pub invariant-loop-term : goal.invariant-loop-term
invariant-loop-term l = l.left ≡ l.degree - weight (assigned l.values) (take l.term-index l.terms)
