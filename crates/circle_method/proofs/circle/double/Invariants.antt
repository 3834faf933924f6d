use Rattle.std.proofs.Common.{◌≡◌, ◌++◌, map, take}
use Rattle.circle_method.specs.Circle.{single_games, return_game}
use Rattle.circle_method.proofs.circle.double.Given as goal

-- the first half, and the return games so far
abbrev pub invariant-loop-k : goal.invariant-loop-k
invariant-loop-k l = l.schedule ≡ single_games l.n ++ map (return_game l.n) (take l.k (single_games l.n))
