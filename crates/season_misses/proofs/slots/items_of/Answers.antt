use Rattle.std.proofs.Common.{[]}
use Rattle.season_misses.specs.Phrases.{run_items}
use Rattle.season_misses.proofs.PieceLemmas.{pieces_more}
use Rattle.season_misses.proofs.slots.items_of.Goals as goal

pub loop-run-preserved : goal.loop-run-preserved
loop-run-preserved c =
    pieces_more run_items c.args.runs.now c.loop-run.run-index _ [] c.loop-run.items.items c.push_items.new.items.items c.loop-run-test.true c.loop-run.invariant c.in_ok-push_items.ensures
