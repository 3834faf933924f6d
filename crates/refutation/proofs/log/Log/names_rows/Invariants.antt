use Rattle.std.proofs.Common.{take}
use Rattle.std.specs.List.{All}
use Rattle.refutation.specs.Steps.{NamesRows}
use Rattle.refutation.proofs.log.Log.names_rows.Given as goal

-- each step so far names rows
abbrev pub invariant-loop-k : goal.invariant-loop-k
invariant-loop-k l = All NamesRows (take l.k l.self)
