use Rattle.std.proofs.Common.{arith}
use Rattle.explain.proofs.names.has_flag.Goals as goal

pub returns-clause-unset : goal.returns-clause-unset
returns-clause-unset c = λ is row from below. c.loop-place.invariant row from (omega arith)
