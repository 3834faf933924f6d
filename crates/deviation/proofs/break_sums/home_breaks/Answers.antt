use Rattle.league.specs.Counts.{slot_count}
use Rattle.league.specs.Venues.{home_games}
use Rattle.rule_core.specs.Table.{table_counts}
use Rattle.deviation.proofs.break_sums.home_breaks.Goals as goal

pub returns-clause-breaks : goal.returns-clause-breaks
returns-clause-breaks c =
    c.breaks_of.ensures.breaks (slot_count c.args.cells.now.n)
    (home_games c.args.cells.now.n (table_counts c.args.cells.now) c.args.team.0) c.requires.slots
    c.home_slots.ensures.slots
