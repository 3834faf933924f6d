use Rattle.std.proofs.Common.{refl}
use Rattle.rule_core.specs.Table.{table_counts}
use Rattle.deviation.proofs.BreakTerms.{br2_term}
use Rattle.deviation.proofs.br2.Br2Rule.term.Goals as goal

pub returns-clause-entry : goal.returns-clause-entry
returns-clause-entry g c =
    br2_term c.args.self.now (table_counts c.args.cells.now) c.args._key c.args.cells.now.n c.numbers.result.now
    c.args.self.now.scope.slots c.all_breaks-breaks.result c.from.result c.saturating_sub.result c.requires.key
    c.requires.teams c.numbers.ensures.numbers refl c.all_breaks-breaks.ensures c.from.ensures c.saturating_sub.ensures
