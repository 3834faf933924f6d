use Rattle.std.proofs.Common.{arith, ◌∙◌}
use Rattle.rule_core.specs.Table.{table_counts}
use Rattle.descent.proofs.ExchangeLemmas.{put_more}
use Rattle.descent.proofs.exchange.put_on.Goals as goal

pub loop-game-preserved : goal.loop-game-preserved
loop-game-preserved c = record {
  n = c.add.ensures.n ∙ c.loop-game.invariant.n;
  counts = put_more (table_counts c.args.cells.now) (table_counts c.loop-game.cells) (table_counts c.add.new.self) c.args.games.now c.loop-game.game-index c.loop-game-test.true c.add.ensures.counts c.loop-game.invariant.counts;
  total = omega (arith, c.add.ensures.total, c.loop-game.invariant.total);
}
