use Rattle.std.proofs.Common.{refl}
use Rattle.rule_core.specs.Table.{table_counts}
use Rattle.deviation.proofs.PlayedLemmas.{rows_more}
use Rattle.deviation.proofs.played.fill_played.Goals as goal

pub fill_row-requires-clause-team : goal.fill_row-requires-clause-team
fill_row-requires-clause-team c = c.requires.teams c.loop-team.team-index 0 c.loop-team-test.true

pub loop-team-preserved : goal.loop-team-preserved
loop-team-preserved c = λ k d lt.
    rows_more c.args.cells.now.n (table_counts c.args.cells.now) c.args.slots.now c.loop-team.played
    c.fill_row.new.played c.args.teams.now c.loop-team.team-index _ c.loop-team-test.true refl
    c.fill_row.ensures.played c.fill_row.ensures.others c.loop-team.invariant k d lt
