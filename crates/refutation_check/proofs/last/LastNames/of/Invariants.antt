use Rattle.std.proofs.Common.{◌≡◌, length}
use Rattle.refutation_check.specs.Forgotten.{AreLastUpTo}
use Rattle.refutation_check.proofs.last.LastNames.of.Given as goal

abbrev pub invariant-loop-k : goal.invariant-loop-k
invariant-loop-k l = record {
  even : length l.last.items ≡ length l.log;
  last : AreLastUpTo l.before l.log l.k l.last.items;
}
