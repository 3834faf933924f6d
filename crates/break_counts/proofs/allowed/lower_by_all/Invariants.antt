use Rattle.std.proofs.Common.{length, take}
use Rattle.break_counts.specs.Tables.{IsTableOn}
use Rattle.break_counts.proofs.allowed.lower_by_all.Given as goal

abbrev pub invariant-loop-k : goal.invariant-loop-k
invariant-loop-k l = IsTableOn (length l.initial.table) (take l.k l.constraints) l.stretches l.side l.table
