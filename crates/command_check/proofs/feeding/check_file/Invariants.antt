use Rattle.std.proofs.Common.{◌≡◌, ℕ, ◌-◌, ◌≤◌, true, List}
use Rattle.robin_io.specs.Counts.{raised}
use Rattle.refutation_check.specs.Room.{has_room}
use Rattle.command_check.specs.Check.{most_log_bytes}
use Rattle.command_check.specs.Feeding.{IsUnderWay}
use Rattle.command_check.proofs.feeding.check_file.Given as goal

abbrev pub invariant-pieces : goal.invariant-pieces
invariant-pieces g l = record {
  under_way : IsUnderWay (g.S.Shelf.contents l.fn.shelf l.name) (g.S.Shelf.left l.shelf) (g.S.Shelf.taken l.fn.shelf) (g.S.Shelf.taken l.shelf) l.fn.feed l.fn.checker l.feed l.checker l.steps l.bytes;
  taken : g.S.Shelf.taken l.shelf ≡ raised (g.S.Shelf.taken l.fn.shelf) l.bytes;
  within : l.bytes ≤ most_log_bytes;
  roomy : has_room l.limit l.fn.checker ≡ true → has_room l.limit l.checker ≡ true;
  started : g.S.Shelf.started l.shelf l.name;
  contents : (n : List ℕ) → g.S.Shelf.contents l.shelf n ≡ g.S.Shelf.contents l.fn.shelf n;
  later : (n : List ℕ) → g.S.Shelf.faults l.fn.shelf n ≤ g.S.Shelf.faults l.shelf n;
}

abbrev pub decreases-pieces : goal.decreases-pieces
decreases-pieces g l = 268435457 - l.bytes
