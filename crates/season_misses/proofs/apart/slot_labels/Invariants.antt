use Rattle.std.proofs.Common.{◌≡◌, decimal, map, take}
use Rattle.season_misses.proofs.apart.slot_labels.Given as goal

-- the slots of the games so far
abbrev pub invariant-loop-game : goal.invariant-loop-game
invariant-loop-game l = l.labels.items ≡ map (λ g. decimal g.slot.0) (take l.game-index l.games)
