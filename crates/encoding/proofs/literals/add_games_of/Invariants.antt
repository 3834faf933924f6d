use Rattle.std.proofs.Common.{◌≡◌, ◌++◌, map, take}
use Rattle.rows.specs.Literals.{yes}
use Rattle.encoding.specs.Variables.{x_var}
use Rattle.encoding.proofs.literals.add_games_of.Given as goal

abbrev pub invariant-loop-slot : goal.invariant-loop-slot
invariant-loop-slot l =
    l.literals.items ≡ l.fn.literals.items ++ map (λ s. yes (x_var l.n l.meeting.0 l.meeting.1 s))
    (take l.slot-index l.slots)
