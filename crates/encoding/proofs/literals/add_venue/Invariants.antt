use Rattle.std.proofs.Common.{◌≡◌, ◌++◌, map, take}
use Rattle.rows.specs.Sums.{literal}
use Rattle.encoding.specs.Variables.{h_var}
use Rattle.encoding.proofs.literals.add_venue.Given as goal

abbrev pub invariant-loop-slot : goal.invariant-loop-slot
invariant-loop-slot l =
    l.literals.items ≡ l.fn.literals.items ++ map (λ s. literal (h_var l.n l.team s) l.home) (take l.slot-index l.slots)
