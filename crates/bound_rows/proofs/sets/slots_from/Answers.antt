use Rattle.std.proofs.Common.{◌+◌, refl}
use Rattle.league.proofs.NumberSets.{range-next}
use Rattle.bound_rows.proofs.sets.slots_from.Goals as goal

pub loop-k-preserved : goal.loop-k-preserved
loop-k-preserved c =
    range-next c.args.first c.loop-k.k (c.args.first + c.loop-k.k) c.loop-k.set _ refl c.loop-k.invariant
    c.in_ok-insert.ensures.ok
