use Rattle.std.proofs.Common.{◌-◌, ◌≤◌, length}
use Rattle.propagate.specs.Looks.{IsUnforced}
use Rattle.propagate.specs.Trails.{values_of}
use Rattle.propagate.proofs.force.next_forced.Given as goal

abbrev pub invariant-terms : goal.invariant-terms
invariant-terms l = record {
  past : l.from ≤ l.at;
  unforced : IsUnforced (values_of l.path.entries) l.terms l.slack l.from l.at;
}

abbrev pub decreases-terms : goal.decreases-terms
decreases-terms l = length l.terms - l.at
