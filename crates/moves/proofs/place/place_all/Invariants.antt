use Rattle.std.proofs.Common.{take}
use Rattle.moves.specs.Places.{ArePlaced}
use Rattle.moves.proofs.place.place_all.Given as goal

-- the games so far are placed
abbrev pub invariant-loop-game : goal.invariant-loop-game
invariant-loop-game l = ArePlaced (take l.game-index l.placed) l.fn.games l.games l.fn.slots l.slots
