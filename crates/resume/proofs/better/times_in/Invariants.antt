use Rattle.std.proofs.Common.{◌≡◌, ◌*◌, ◌≤◌, take}
use Rattle.rule_core.specs.Table.{table_counts}
use Rattle.resume.specs.Walks.{times_in}
use Rattle.resume.proofs.better.times_in.Given as goal

-- the games so far
abbrev pub invariant-loop-game : goal.invariant-loop-game
invariant-loop-game l = record {
  sum : l.sum ≡ times_in (table_counts l.cells) (take l.game-index l.games);
  few : l.sum ≤ 10000 * l.game-index;
}
