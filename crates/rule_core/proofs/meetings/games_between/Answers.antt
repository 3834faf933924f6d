use Rattle.std.proofs.Common.{arith}
use Rattle.std.proofs.lemmas.List.Sums.{sum_by_more}
use Rattle.rule_core.specs.Table.{table_counts}
use Rattle.rule_core.proofs.meetings.games_between.Goals as goal

pub at-requires-clause-slot : goal.at-requires-clause-slot
at-requires-clause-slot c = c.requires.slots c.loop-slot.slot-index 0 c.loop-slot-test.true

pub loop-slot-preserved : goal.loop-slot-preserved
loop-slot-preserved c = record {
  counted = omega (arith, c.loop-slot.invariant.counted, c.at.ensures.count, sum_by_more (λ s. table_counts c.args.cells.now c.args.home.0 c.args.away.0 s) c.args.slots.now c.loop-slot.slot-index 0 c.loop-slot-test.true);
  bounded = omega (arith, c.loop-slot.invariant.bounded, c.at.ensures.at_most);
}
