use Rattle.std.proofs.Common.{◌≡◌, ◌+◌, ◌++◌, drop, string_bytes}
use Rattle.command_check.specs.Report.{constraints_text}
use Rattle.command_check.proofs.judging.push_constraints.Given as goal

-- the text so far, and then the lines of the constraints that are left, is the whole
abbrev pub invariant-loop-k : goal.invariant-loop-k
invariant-loop-k l = string_bytes l.text ++ constraints_text (l.k + 1) (drop l.k l.constraints) (drop l.k l.vectors) ≡ string_bytes l.fn.text ++ constraints_text 1 l.constraints l.vectors
