use Rattle.rule_core.specs.Table.{table_counts}
use Rattle.deviation.proofs.CapacityTerms.{ca2_term}
use Rattle.deviation.proofs.ca2.Ca2Rule.term.Goals as goal

pub returns-clause-entry : goal.returns-clause-entry
returns-clause-entry g c =
    ca2_term c.args.self.now (table_counts c.args.cells.now) c.args.key c.numbers.result.now c.games_in-games.result c.outside.result c.requires.key c.numbers.ensures.numbers c.games_in-games.ensures c.outside.ensures
