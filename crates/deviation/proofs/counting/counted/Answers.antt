use Rattle.std.proofs.Common.{arith, ◌∙◌}
use Rattle.deviation.proofs.EntryLemmas.{counts-next}
use Rattle.deviation.proofs.counting.counted.Goals as goal

pub loop-game-preserved : goal.loop-game-preserved
loop-game-preserved c = record {
  n = c.add.ensures.n ∙ c.loop-game.invariant.n;
  counts = counts-next c.args.games.now c.loop-game.game-index _ _ c.loop-game-test.true c.loop-game.invariant.counts c.add.ensures.counts;
  total = omega (arith, c.add.ensures.total, c.loop-game.invariant.total);
}
