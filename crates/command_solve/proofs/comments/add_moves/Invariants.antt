use Rattle.std.proofs.Common.{◌≡◌, ◌++◌, take}
use Rattle.std.specs.List.{flat_map}
use Rattle.command_solve.specs.Solve.{move_line}
use Rattle.command_solve.proofs.comments.add_moves.Given as goal

-- the comments of the moves so far
abbrev pub invariant-loop-k : goal.invariant-loop-k
invariant-loop-k l = l.text.items ≡ l.initial.text.items ++ flat_map move_line (take l.k l.trail.list)
