use Rattle.std.proofs.Common.{arith, ◌∙◌}
use Rattle.rule_core.specs.Table.{table_counts}
use Rattle.descent.proofs.ExchangeLemmas.{next_there, taken_more}
use Rattle.descent.proofs.exchange.take_off.Goals as goal

pub remove-requires-clause-there : goal.remove-requires-clause-there
remove-requires-clause-there c = next_there (table_counts c.args.cells.now) (table_counts c.loop-game.cells) c.args.games.now c.loop-game.game-index c.loop-game-test.true c.requires.there c.loop-game.invariant.counts

pub loop-game-preserved : goal.loop-game-preserved
loop-game-preserved c = record {
  n = c.remove.ensures.n ∙ c.loop-game.invariant.n;
  counts = taken_more (table_counts c.args.cells.now) (table_counts c.loop-game.cells) (table_counts c.remove.new.self) c.args.games.now c.loop-game.game-index c.loop-game-test.true c.remove.ensures.counts c.loop-game.invariant.counts;
  total = omega (arith, c.remove.ensures.total, c.loop-game.invariant.total);
}
