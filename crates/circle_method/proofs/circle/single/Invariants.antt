use Rattle.std.proofs.Common.{◌≡◌}
use Rattle.std.specs.List.{flat_map, range_with_len}
use Rattle.circle_method.specs.Circle.{slot_games}
use Rattle.circle_method.proofs.circle.single.Given as goal

-- the games of the slots so far
abbrev pub invariant-loop-slot : goal.invariant-loop-slot
invariant-loop-slot l = l.schedule ≡ flat_map (slot_games l.n) (range_with_len 0 l.slot)
