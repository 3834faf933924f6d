use Rattle.std.proofs.Common.{arith}
use Rattle.std.specs.BTreeMap.{get}
use Rattle.std.specs.Ordering.{nat_cmp}
use Rattle.venue_counts.proofs.StepLemmas.{groups-done}
use Rattle.venue_counts.proofs.groups.groups_of.Goals as goal

pub returns : goal.returns
returns c =
    groups-done c.args.limit c.n-n.result c.args.league.now.n c.args.league.now.constraints
    c.constraints-constraints.result.now c.loop-k.all.groups.items (get nat_cmp c.loop-k.all.places) c.loop-k.k
    c.n-n.ensures.n c.constraints-constraints.ensures (omega arith) c.loop-k.invariant.0 c.loop-k.invariant.1
