use Rattle.std.proofs.Common.{arith}
use Rattle.std.proofs.lemmas.List.Sums.{sum_by_more}
use Rattle.league.specs.Venues.{games_on}
use Rattle.rule_core.specs.Table.{table_counts}
use Rattle.deviation.proofs.sums.games_in.Goals as goal

pub games_at-requires-clause-slot : goal.games_at-requires-clause-slot
games_at-requires-clause-slot c = c.requires.slots c.loop-slot.slot-index 0 c.loop-slot-test.true

pub loop-slot-preserved : goal.loop-slot-preserved
loop-slot-preserved c = record {
  counted = omega (arith, c.loop-slot.invariant.counted, c.games_at.ensures.games, sum_by_more (λ s. games_on c.args.cells.now.n (table_counts c.args.cells.now) c.args.side c.args.team.0 s) c.args.slots.now c.loop-slot.slot-index 0 c.loop-slot-test.true);
  bounded = omega (arith, c.loop-slot.invariant.bounded, c.games_at.ensures.at_most);
}
