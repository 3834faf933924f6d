use Rattle.std.proofs.Common.{◌≡◌, ◌++◌, take}
use Rattle.std.specs.List.{flat_map}
use Rattle.resume.specs.Merged.{game_from}
use Rattle.resume.proofs.merge.add_all_from.Given as goal

abbrev pub invariant-loop-game : goal.invariant-loop-game
invariant-loop-game l = l.merged ≡ l.fn.merged ++ flat_map (game_from l.k) (take l.game-index l.games)
