use Rattle.clause_search.proofs.names.name_all.Goals as goal

pub returns-clause-small : goal.returns-clause-small
returns-clause-small c = c.type_inv.names
