use Rattle.std.proofs.Common.{◌-◌, length}
use Rattle.propagate.specs.Numbered.{row_at}
use Rattle.propagate.proofs.LookLemmas.{IsForcedUpTo}
use Rattle.propagate.proofs.force.force_all.Given as goal

abbrev pub invariant-terms : goal.invariant-terms
invariant-terms l = IsForcedUpTo l.place l.slack l.from l.fn.path l.path

abbrev pub decreases-terms : goal.decreases-terms
decreases-terms l = length (row_at l.path.rows l.place).terms - l.from
