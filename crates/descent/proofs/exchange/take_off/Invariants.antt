use Rattle.std.proofs.Common.{◌≡◌, ◌+◌, ℕ, take}
use Rattle.std.specs.List.{sum}
use Rattle.league.specs.Counts.{counts_of}
use Rattle.rule_core.specs.Table.{table_counts}
use Rattle.descent.proofs.exchange.take_off.Given as goal

abbrev pub invariant-loop-game : goal.invariant-loop-game
invariant-loop-game l = record {
  n : l.cells.n ≡ l.initial.cells.n;
  counts : (i j s : ℕ) → table_counts l.cells i j s + counts_of (take l.game-index l.games) i j s ≡ table_counts l.initial.cells i j s;
  total : sum l.cells.list + l.game-index ≡ sum l.initial.cells.list;
}
