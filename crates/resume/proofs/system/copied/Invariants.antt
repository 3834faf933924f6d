use Rattle.std.proofs.Common.{◌≡◌, take}
use Rattle.resume.proofs.system.copied.Given as goal

abbrev pub invariant-loop-game : goal.invariant-loop-game
invariant-loop-game l = l.copy ≡ take l.game-index l.games
