use Rattle.std.proofs.Common.{◌-◌}
use Rattle.explain.proofs.UsedLemmas.{IsMarking}
use Rattle.explain.proofs.used.marked.Given as goal

abbrev pub invariant-loop-done : goal.invariant-loop-done
invariant-loop-done l = IsMarking l.rows l.log (l.steps - l.done) l.flags.items
