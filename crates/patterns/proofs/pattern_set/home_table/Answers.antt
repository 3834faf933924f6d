use Rattle.std.proofs.Common.{arith}
use Rattle.league.proofs.CountLemmas.{home_games-none}
use Rattle.patterns.proofs.PatternLemmas.{home_table-all, home_table-le, home_table-more}
use Rattle.patterns.proofs.pattern_set.home_table.Goals as goal

pub loop-game-init : goal.loop-game-init
loop-game-init c = record {
  counted = λ n fit i s. omega (arith, c.new-table.ensures i s, home_games-none n i s);
  bounded = λ i s. omega (arith, c.new-table.ensures i s);
}

pub loop-game-preserved : goal.loop-game-preserved
loop-game-preserved c = record {
  counted = λ n fit i s. home_table-more n c.loop-game.game-index c.args.games.now i s _ _ c.loop-game-test.true fit (c.loop-game.invariant.counted n fit i s) (c.add.ensures i s);
  bounded = λ i s. home_table-le c.loop-game.game-index _ _ _ (c.loop-game.invariant.bounded i s) (c.add.ensures i s);
}

pub returns : goal.returns
returns c = λ n fit i s. home_table-all n c.loop-game.game-index c.args.games.now i s _ c.loop-game-test.false (c.loop-game.invariant.counted n fit i s)
