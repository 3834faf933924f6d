use Rattle.std.proofs.Common.{◌≡◌, ◌++◌, length}
use Rattle.std.specs.List.{flat_map}
use Rattle.season_misses.specs.Reasons.{by_gap, neighbours}
use Rattle.season_misses.proofs.gaps.push_by_gaps.Given as goal

-- the reasons so far, with those of the games that are left
abbrev pub invariant-loop-rest : goal.invariant-loop-rest
invariant-loop-rest l = l.reasons.items ++ flat_map (by_gap l.key l.min) (neighbours l.rest)
    ≡ l.fn.reasons.items ++ flat_map (by_gap l.key l.min) (neighbours l.played)

abbrev pub decreases-loop-rest : goal.decreases-loop-rest
decreases-loop-rest l = length l.rest
