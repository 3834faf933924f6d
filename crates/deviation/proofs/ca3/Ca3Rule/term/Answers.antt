use Rattle.rule_core.specs.Table.{table_counts}
use Rattle.deviation.proofs.BeforeLemmas.{ca3_none, ca3_term}
use Rattle.deviation.proofs.ca3.Ca3Rule.term.Goals as goal

pub returns-then-self-slots-clause-entry : goal.returns-then-self-slots-clause-entry
returns-then-self-slots-clause-entry g c =
    ca3_none c.args.self.now (table_counts c.args.cells.now) c.args.key c.args.cells.now.n c.slots-slots.result
    c.requires.key c.requires.teams c.slots-slots.ensures.slots c.if-self-slots.true

pub returns-clause-entry : goal.returns-clause-entry
returns-clause-entry g c =
    ca3_term c.args.self.now (table_counts c.args.cells.now) c.args.key c.args.cells.now.n c.games_before-before.result c.slots-slots.result c.outside_in_windows.result c.requires.key c.requires.teams c.slots-slots.ensures.slots c.games_before-before.ensures.games c.outside_in_windows.ensures
