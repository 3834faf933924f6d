use Rattle.std.proofs.Common.{arith}
use Rattle.league.proofs.FitLemmas.{are_teams-below}
use Rattle.rule_core.specs.Table.{table_counts}
use Rattle.rule_core.proofs.PairLemmas.{pair_below}
use Rattle.deviation.proofs.Se1Terms.{se1_term}
use Rattle.deviation.proofs.se1.Se1Rule.term.Goals as goal

pub lacking-requires-clause-first : goal.lacking-requires-clause-first
lacking-requires-clause-first g c =
    let rule = c.args.self.now in
    omega (arith, c.requires.teams, (pair_below rule.n rule.pairs c.args.key c.get.result.0.0 c.get.result.1.0 (are_teams-below rule.n rule.pairs rule.ready.fits) c.requires.key c.get.ensures).0)

pub lacking-requires-clause-second : goal.lacking-requires-clause-second
lacking-requires-clause-second g c =
    let rule = c.args.self.now in
    omega (arith, c.requires.teams, (pair_below rule.n rule.pairs c.args.key c.get.result.0.0 c.get.result.1.0 (are_teams-below rule.n rule.pairs rule.ready.fits) c.requires.key c.get.ensures).1)

pub returns-clause-entry : goal.returns-clause-entry
returns-clause-entry g c =
    let rule = c.args.self.now in
    se1_term rule.n (table_counts c.args.cells.now) rule.pairs rule.min c.args.key c.args.cells.now.n c.get.result.0.0 c.get.result.1.0 c.lacking.result c.requires.key c.requires.teams c.get.ensures c.lacking.ensures
