use Rattle.std.proofs.Common.{◌≡◌, ◌++◌, take}
use Rattle.std.specs.List.{flat_map}
use Rattle.command_solve.specs.Patterns.{letter}
use Rattle.command_solve.proofs.pattern_lines.put_letters.Given as goal

-- the letters so far
abbrev pub invariant-loop-slot : goal.invariant-loop-slot
invariant-loop-slot l = l.text.items ≡ l.fn.text.items ++ flat_map letter (take l.slot l.pattern)
