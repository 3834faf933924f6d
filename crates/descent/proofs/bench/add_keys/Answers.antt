use Rattle.std.proofs.Common.{◌+◌, ◌∷◌, [], take, arith}
use Rattle.descent.proofs.TouchedLemmas.{added-more, added-none, key_below, keys_more}
use Rattle.descent.proofs.bench.add_keys.Goals as goal

pub loop-place-init : goal.loop-place-init
loop-place-init c = added-none c.args.found.now

pub insert-requires : goal.insert-requires
insert-requires c =
    omega (
      arith,
      key_below c.args.found.now.room c.args.keys.now.list c.loop-place.place c.get.result c.requires c.get.ensures,
      c.loop-place.invariant.room,
    )

pub loop-place-preserved : goal.loop-place-preserved
loop-place-preserved c =
    added-more (take c.loop-place.place c.args.keys.now.list) (c.get.result ∷ [])
    (take (c.loop-place.place + 1) c.args.keys.now.list) c.args.found.now c.loop-place.found c.insert.new.self
    c.loop-place.invariant c.insert.ensures
    (keys_more c.args.keys.now.list c.loop-place.place c.get.result c.get.ensures)
