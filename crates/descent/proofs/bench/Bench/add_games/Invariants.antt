use Rattle.std.proofs.Common.{take}
use Rattle.std.specs.List.{flat_map}
use Rattle.descent.specs.Bench.{HasFound}
use Rattle.descent.proofs.bench.Bench.add_games.Given as goal

abbrev pub invariant-loop-game : goal.invariant-loop-game
invariant-loop-game g l =
    HasFound (flat_map (g.R.Entries.touches l.rule) (take l.game-index l.games)) l.initial.self l.self
