use Rattle.std.proofs.Common.{◌≡◌, false, take}
use Rattle.std.specs.List.{All}
use Rattle.venue_counts.specs.Needs.{exceeds_at}
use Rattle.venue_counts.proofs.counts.count.Given as goal

abbrev pub invariant-loop-group : goal.invariant-loop-group
invariant-loop-group l =
    All (λ g. exceeds_at l.limit l.n l.league.constraints g.side g.slots.now ≡ false) (take l.group-index l.group-items)
