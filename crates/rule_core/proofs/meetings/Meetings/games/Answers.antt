use Rattle.std.proofs.Common.{length, arith, ap}
use Rattle.std.proofs.lemmas.List.Sums.{sum_by_more}
use Rattle.std.specs.List.{sum_by}
use Rattle.rule_core.specs.Table.{table_counts}
use Rattle.rule_core.proofs.meetings.Meetings.games.Goals as goal

pub overflow_add-games : goal.overflow_add-games
overflow_add-games c = omega (arith, c.loop-home.invariant.bounded, c.games_between-games.ensures.at_most, c.self.invariant.few, ap length c.deref-home-items.ensures.value)

pub loop-home-preserved : goal.loop-home-preserved
loop-home-preserved c = record {
  counted = omega (arith, c.loop-home.invariant.counted, c.games_between-games.ensures.games, sum_by_more (λ p. sum_by (λ s. table_counts c.args.cells.now p.0 p.1 s) c.args.slots.now) c.deref-home-items.result.now c.loop-home.home-index (0, 0) c.loop-home-test.true);
  bounded = omega (arith, c.loop-home.invariant.bounded, c.games_between-games.ensures.at_most);
}
