use Rattle.std.proofs.Common.{◌≡◌, take}
use Rattle.std.specs.List.{sum}
use Rattle.league.specs.Counts.{counts_of}
use Rattle.rule_core.specs.Table.{table_counts}
use Rattle.deviation.proofs.counting.counted.Given as goal

abbrev pub invariant-loop-game : goal.invariant-loop-game
invariant-loop-game l = record {
  n : l.cells.n ≡ l.n;
  counts : table_counts l.cells ≡ counts_of (take l.game-index l.games);
  total : sum l.cells.list ≡ l.game-index;
}
