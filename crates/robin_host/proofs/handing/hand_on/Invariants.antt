use Rattle.std.proofs.Common.{◌≡◌, ℕ, List}
use Rattle.robin_host.specs.Handed.{IsHanded}
use Rattle.robin_host.proofs.handing.hand_on.Given as goal

abbrev pub invariant-loop-piece : goal.invariant-loop-piece
invariant-loop-piece g l = record {
  started : g.S.Shelf.started l.shelf l.name;
  contents : (n : List ℕ) → g.S.Shelf.contents l.shelf n ≡ g.S.Shelf.contents l.fn.shelf n;
  handed : IsHanded (g.S.Shelf.contents l.fn.shelf l.name) (g.S.Shelf.left l.shelf) (g.K.Sink.written l.fn.out) (g.K.Sink.written l.out);
}
