use Rattle.std.proofs.Common.{nat_lt, ◌∙◌, arith}
use Rattle.std.proofs.lemmas.Bool.{le-ltb, lt-ltb}
use Rattle.league.specs.Counts.{slot_count}
use Rattle.league.specs.Venues.{away_games}
use Rattle.rule_core.specs.Table.{table_counts}
use Rattle.command_show.specs.Tallies.{away_run}
use Rattle.command_show.proofs.RunLemmas.{counted_cut, counted_more, ord_max_is}
use Rattle.command_show.proofs.tallies.away_run.Goals as goal
use Rattle.command_show.proofs.tallies.away_run.Goals.{then-away-gt0, else-away-gt0}

pub loop-number-preserved : goal.loop-number-preserved
loop-number-preserved c =
    let n = c.args.cells.now.n in
    let games = away_games n (table_counts c.args.cells.now) c.args.team.0 in
    let whole = away_run n (table_counts c.args.cells.now) c.args.team.0 in
    let slot = c.loop-number.number in
    elim c.if-away-gt0.branch [
      | then-away-gt0 w ↦
          counted_more (λ s. nat_lt 0 (games s)) (slot_count n) c.loop-number.run c.loop-number.longest slot whole c.if-away-gt0.run c.max-longest.result
          (omega (arith, c.slots-number-end.ensures.slots, c.loop-number-test.true))
          (lt-ltb 0 (games slot) (omega (arith, c.away.ensures.count, w.if-away-gt0)))
          w.run-is (c.max-longest.ensures ∙ ord_max_is c.if-away-gt0.run c.loop-number.longest) c.loop-number.invariant
      | else-away-gt0 w ↦
          counted_cut (λ s. nat_lt 0 (games s)) (slot_count n) c.loop-number.run c.loop-number.longest slot whole c.if-away-gt0.run c.max-longest.result
          (omega (arith, c.slots-number-end.ensures.slots, c.loop-number-test.true))
          (le-ltb 0 (games slot) (omega (arith, c.away.ensures.count, w.if-away-gt0)))
          w.run-is (c.max-longest.ensures ∙ ord_max_is c.if-away-gt0.run c.loop-number.longest) c.loop-number.invariant
    ]
