use Rattle.std.proofs.Common.{◌≡◌, take}
use Rattle.rule_core.specs.Table.{table_counts}
use Rattle.resume.specs.Changed.{changed_on}
use Rattle.resume.proofs.better.none_changed.Given as goal

-- none of the games so far is changed
abbrev pub invariant-loop-game : goal.invariant-loop-game
invariant-loop-game l = changed_on l.k (take l.game-index l.games) (table_counts l.cells) ≡ 0
