use Rattle.std.proofs.Common.{◌<◌, length, sym, arith}
use Rattle.std.proofs.lemmas.Option.{get_or_from_slice_get}
use Rattle.season_misses.proofs.MissLemmas.{miss_added}
use Rattle.season_misses.proofs.miss.misses_of.Goals as goal

pub loop-place-preserved : goal.loop-place-preserved
loop-place-preserved c =
    let within : c.loop-place.place < length c.args.vectors.now = omega (arith, c.requires.each) in
    miss_added c.loop-place.place c.args.constraints.now c.args.vectors.now c.index-constraints-place.result c.vector-vector.result.now c.loop-place.found.items c.push_miss.new.found.items _ c.loop-place-test.true within (sym c.index-constraints-place.is)
    (get_or_from_slice_get c.args.vectors.now c.loop-place.place c.vector-vector.result.now c.vector-vector.result.now c.vector-vector.ensures) c.loop-place.invariant c.in_ok-push_miss.ensures
