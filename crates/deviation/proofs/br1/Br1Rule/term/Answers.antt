use Rattle.std.proofs.Common.{refl}
use Rattle.rule_core.specs.Table.{table_counts}
use Rattle.deviation.proofs.BreakTerms.{br1_term}
use Rattle.deviation.proofs.br1.Br1Rule.term.Goals as goal

pub returns-clause-entry : goal.returns-clause-entry
returns-clause-entry g c =
    br1_term c.args.self.now (table_counts c.args.cells.now) c.args.key c.args.cells.now.n c.get.result
    c.args.self.now.scope.slots c.team_breaks-breaks.result c.from.result c.saturating_sub.result c.requires.key
    c.requires.teams c.get.ensures refl c.team_breaks-breaks.ensures.breaks c.from.ensures c.saturating_sub.ensures
