use Rattle.std.proofs.Common.{◌≡◌, ◌++◌, take}
use Rattle.std.specs.List.{flat_map}
use Rattle.resume.specs.Merged.{game_before}
use Rattle.resume.proofs.merge.add_all_before.Given as goal

abbrev pub invariant-loop-game : goal.invariant-loop-game
invariant-loop-game l = l.merged ≡ l.fn.merged ++ flat_map (game_before l.k) (take l.game-index l.games)
