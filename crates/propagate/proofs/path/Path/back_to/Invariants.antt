use Rattle.std.proofs.Common.{◌≡◌, length}
use Rattle.propagate.specs.Paths.{with_entries}
use Rattle.propagate.proofs.EntryLemmas.{IsBackUpTo}
use Rattle.propagate.proofs.path.Path.back_to.Given as goal

abbrev pub invariant-levels : goal.invariant-levels
invariant-levels l = record {
  same : l.self ≡ with_entries l.fn.self l.self.entries;
  back : IsBackUpTo l.level l.fn.self.entries l.self.entries;
}

abbrev pub decreases-levels : goal.decreases-levels
decreases-levels l = length l.self.entries
