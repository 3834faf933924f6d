use Rattle.std.proofs.Common.{◌≡◌, ◌++◌, drop, take, None}
use Rattle.std.specs.List.{All}
use Rattle.std.specs.Option.{option_copied}
use Rattle.robinx.specs.Texts.{constraints_after}
use Rattle.robinx.specs.Held.{IsHeld}
use Rattle.robinx.proofs.write_constraints.put_constraints.Given as goal

-- the text so far, and then the constraints that are left, is the whole
abbrev pub invariant-loop-constraint : goal.invariant-loop-constraint
invariant-loop-constraint l =
    (l.text.items ++ constraints_after (option_copied l.group) (drop l.constraint-index l.constraints) ≡ l.fn.text.items ++ constraints_after None l.constraints)
    × All IsHeld (take l.constraint-index l.constraints)
