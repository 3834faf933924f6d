use Rattle.std.proofs.Common.{arith}
use Rattle.rule_core.specs.Table.{table_counts}
use Rattle.deviation.proofs.team_gaps.TeamGaps.add_slot.Goals as goal

pub add_place-requires-clause-teams : goal.add_place-requires-clause-teams
add_place-requires-clause-teams c = λ j stands. omega (arith, c.in-Some.ensures.teams j stands, c.requires.few)

pub returns-in-Some-clause-summed : goal.returns-in-Some-clause-summed
returns-in-Some-clause-summed c =
    c.add_place.ensures.summed c.args.cells.now.n (table_counts c.args.cells.now) c.args.later.now c.requires.slot
    (record { home = c.in-Some.ensures.home; away = c.in-Some.ensures.away }) c.requires.ascending c.requires.summed
