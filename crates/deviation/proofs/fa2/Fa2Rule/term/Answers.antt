use Rattle.std.proofs.Common.{arith}
use Rattle.rule_core.specs.Table.{table_counts}
use Rattle.rule_core.proofs.PairLemmas.{pair_below}
use Rattle.deviation.proofs.Fa2Terms.{fa2_term, slots_ascending, slots_below, teams_below}
use Rattle.deviation.proofs.fa2.Fa2Rule.term.Goals as goal

pub largest_lead-requires-clause-first : goal.largest_lead-requires-clause-first
largest_lead-requires-clause-first g c =
    let rule = c.args.self.now in
    omega (arith, c.requires.teams, (pair_below rule.n rule.pairs c.args.key c.get.result.0.0 c.get.result.1.0 (teams_below rule) c.requires.key c.get.ensures).0)

pub largest_lead-requires-clause-second : goal.largest_lead-requires-clause-second
largest_lead-requires-clause-second g c =
    let rule = c.args.self.now in
    omega (arith, c.requires.teams, (pair_below rule.n rule.pairs c.args.key c.get.result.0.0 c.get.result.1.0 (teams_below rule) c.requires.key c.get.ensures).1)

pub largest_lead-requires-clause-ascending : goal.largest_lead-requires-clause-ascending
largest_lead-requires-clause-ascending g c = slots_ascending c.args.self.now c.deref.result.now c.deref.ensures.value

pub largest_lead-requires-clause-slots : goal.largest_lead-requires-clause-slots
largest_lead-requires-clause-slots g c = slots_below c.args.self.now c.args.cells.now.n c.deref.result.now c.requires.teams c.deref.ensures.value

pub returns-clause-entry : goal.returns-clause-entry
returns-clause-entry g c =
    fa2_term c.args.self.now (table_counts c.args.cells.now) c.deref.result.now c.args.key c.args.cells.now.n c.get.result.0.0 c.get.result.1.0 c.largest_lead.result c.requires.key c.requires.teams c.get.ensures c.deref.ensures.value c.largest_lead.ensures
