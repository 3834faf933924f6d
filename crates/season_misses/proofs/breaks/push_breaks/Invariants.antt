use Rattle.std.proofs.Common.{◌≡◌, ◌++◌, take}
use Rattle.season_misses.specs.Reasons.{breaks_of}
use Rattle.season_misses.proofs.breaks.push_breaks.Given as goal

-- the breaks at the slots so far
abbrev pub invariant-loop-slot : goal.invariant-loop-slot
invariant-loop-slot l = l.found.items ≡ l.fn.found.items ++ breaks_of l.season.cells.now.n l.season.games.now l.player.side (take l.slot-index l.slots) l.player.team
