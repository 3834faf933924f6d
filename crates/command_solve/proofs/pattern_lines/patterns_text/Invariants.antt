use Rattle.std.proofs.Common.{◌≡◌, take}
use Rattle.command_solve.specs.Patterns.{lines_from}
use Rattle.command_solve.proofs.pattern_lines.patterns_text.Given as goal

-- the lines so far
abbrev pub invariant-loop-team : goal.invariant-loop-team
invariant-loop-team l = l.text.items ≡ lines_from 0 (take l.team l.patterns)
