use Rattle.std.proofs.Common.{take}
use Rattle.std.specs.BTreeMap.{get}
use Rattle.std.specs.Ordering.{nat_cmp}
use Rattle.venue_counts.specs.Groups.{AreFound, AreGroups}
use Rattle.venue_counts.proofs.groups.groups_of.Given as goal

abbrev pub invariant-loop-k : goal.invariant-loop-k
invariant-loop-k l =
    AreFound l.all.groups.items (get nat_cmp l.all.places)
    × AreGroups l.limit l.n (take l.k l.constraints) l.all.groups.items (get nat_cmp l.all.places)
