use Rattle.std.proofs.Common.{◌≡◌, ◌+◌, ◌-◌, true}
use Rattle.std.specs.List.{list_all, range_with_len}
use Rattle.league.specs.Sets.{is_in}
use Rattle.break_counts.proofs.cover.holds_later.Given as goal

abbrev pub invariant-loop-distance : goal.invariant-loop-distance
invariant-loop-distance l =
    list_all (λ s. is_in s l.slots) (range_with_len (l.stretch.first + 1) (l.distance - 1)) ≡ true
