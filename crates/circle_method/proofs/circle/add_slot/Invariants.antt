use Rattle.std.proofs.Common.{◌≡◌, ◌++◌, ◌∷◌, ◌-◌, map}
use Rattle.std.specs.List.{range_with_len}
use Rattle.circle_method.specs.Circle.{last_team_game, circle_game}
use Rattle.circle_method.proofs.circle.add_slot.Given as goal

-- the games of the slot so far
abbrev pub invariant-loop-k : goal.invariant-loop-k
invariant-loop-k l = l.schedule ≡ l.fn.schedule ++ last_team_game l.n l.slot ∷ map (circle_game l.n l.slot) (range_with_len 1 (l.k - 1))
