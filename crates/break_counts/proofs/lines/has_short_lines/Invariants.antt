use Rattle.std.proofs.Common.{take}
use Rattle.std.specs.List.{All}
use Rattle.break_counts.specs.Lines.{IsShort}
use Rattle.break_counts.proofs.lines.has_short_lines.Given as goal

-- each step so far has a short line
abbrev pub invariant-loop-k : goal.invariant-loop-k
invariant-loop-k l = All IsShort (take l.k l.log)
