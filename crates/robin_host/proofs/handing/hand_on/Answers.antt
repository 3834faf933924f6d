use Rattle.std.proofs.Common.{rules, ◌≡◌, ◌<◌, [], ap, take, length}
use Rattle.robin_host.proofs.HandedLemmas.{handed-all, handed-more}
use Rattle.robin_host.proofs.handing.hand_on.Goals as goal

pub returns-then-count-eq0-clause-whole : goal.returns-then-count-eq0-clause-whole
returns-then-count-eq0-clause-whole g c =
    let none : take c.in_ok-count.count c.take.new.room ≡ [] = ap (λ k. take k c.take.new.room) c.if-count-eq0.true in
    let room : 0 < length c.take.new.room = search rules in
    handed-all _ (g.S.Shelf.left c.loop-piece.shelf) (g.S.Shelf.left c.take.new.self) _ (g.K.Sink.written c.loop-piece.out) _
    c.loop-piece.invariant.handed c.in_ok-count.ensures.bytes none (c.in_ok-count.ensures.end c.if-count-eq0.true room)

pub loop-piece-preserved : goal.loop-piece-preserved
loop-piece-preserved g c = record {
  started = search rules;
  contents = search rules;
  handed = handed-more _ (g.S.Shelf.left c.loop-piece.shelf) (g.S.Shelf.left c.take.new.self) _ (g.K.Sink.written c.loop-piece.out)
      (g.K.Sink.written c.put_all.new.sink) _ c.loop-piece.invariant.handed c.in_ok-count.ensures.bytes c.in_ok-put_all.ensures.ok;
}
