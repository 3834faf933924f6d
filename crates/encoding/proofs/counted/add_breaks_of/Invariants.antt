use Rattle.std.proofs.Common.{◌≡◌, ◌++◌, cond, map, take}
use Rattle.rows.specs.Literals.{yes}
use Rattle.encoding.specs.Lists.{after_first}
use Rattle.encoding.specs.Variables.{ab_var, hb_var}
use Rattle.encoding.proofs.counted.add_breaks_of.Given as goal

abbrev pub invariant-loop-slot : goal.invariant-loop-slot
invariant-loop-slot l = l.literals.items ≡ l.fn.literals.items
    ++ map (λ s. yes (cond l.home (hb_var l.n l.team s) (ab_var l.n l.team s))) (after_first (take l.slot-index l.slots))
