use Rattle.std.proofs.Common.{◌≡◌, ℕ, ◌+◌, ◌-◌, ◌≤◌, List, vec_len}
use Rattle.std.specs.Io.KnownBytes.{Consumes}
use Rattle.robin_io.specs.Counts.{raised}
use Rattle.robin_io.proofs.shelf.read_all.Given as goal

abbrev pub invariant-pieces : goal.invariant-pieces
invariant-pieces g l = record {
  within : vec_len l.bytes ≤ l.limit;
  started : g.S.Shelf.started l.shelf l.name;
  consumed : Consumes (g.S.Shelf.contents l.fn.shelf l.name) (g.S.Shelf.left l.shelf) l.bytes.items;
  taken : g.S.Shelf.taken l.shelf ≡ raised (g.S.Shelf.taken l.fn.shelf) (vec_len l.bytes);
  contents : (n : List ℕ) → g.S.Shelf.contents l.shelf n ≡ g.S.Shelf.contents l.fn.shelf n;
  calls : g.S.Shelf.calls l.shelf ≤ g.S.Shelf.calls l.fn.shelf + (vec_len l.bytes + 1);
  later : (n : List ℕ) → g.S.Shelf.faults l.fn.shelf n ≤ g.S.Shelf.faults l.shelf n;
}

abbrev pub decreases-pieces : goal.decreases-pieces
decreases-pieces g l = l.limit + 1 - vec_len l.bytes
