use Rattle.rule_core.specs.Table.{table_counts}
use Rattle.deviation.proofs.CapacityTerms.{ca4_hosts, ca4_slots-below, ca4_slots-few, ca4_term}
use Rattle.deviation.proofs.ca4.Ca4Rule.term.Goals as goal

pub games_of_hosts-games-requires-clause-hosts : goal.games_of_hosts-games-requires-clause-hosts
games_of_hosts-games-requires-clause-hosts g c = ca4_hosts c.args.self.now c.args.cells.now.n c.deref.result.now
    c.requires.teams c.deref.ensures.value

pub games_of_hosts-games-requires-clause-slots : goal.games_of_hosts-games-requires-clause-slots
games_of_hosts-games-requires-clause-slots g c = ca4_slots-below c.args.self.now c.args.key c.args.cells.now.n
    c.slots_at.result.now c.requires.key c.requires.teams c.slots_at.ensures

pub games_of_hosts-games-requires-clause-few_slots : goal.games_of_hosts-games-requires-clause-few_slots
games_of_hosts-games-requires-clause-few_slots g c =
    ca4_slots-few c.args.self.now c.args.key c.slots_at.result.now c.requires.key c.slots_at.ensures

pub returns-clause-entry : goal.returns-clause-entry
returns-clause-entry g c =
    ca4_term c.args.self.now (table_counts c.args.cells.now) c.args.key c.args.cells.now.n c.slots_at.result.now
    c.games_of_hosts-games.result c.outside.result c.requires.key c.requires.teams c.slots_at.ensures
    c.games_of_hosts-games.ensures c.outside.ensures
