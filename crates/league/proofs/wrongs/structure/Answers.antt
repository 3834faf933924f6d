use Rattle.league.proofs.WrongLemmas.{pairs_wrong-read, cells_wrong-read, phases_wrong-read}
use Rattle.league.proofs.RoundRobinLemmas.{none_wrong}
use Rattle.league.proofs.wrongs.structure.Goals as goal

pub returns-clause-pairs : goal.returns-clause-pairs
returns-clause-pairs c = pairs_wrong-read _ _ _ _ _ _ c.n-n.ensures.n c.games.ensures c.of-tables.ensures c.pairs_wrong.ensures

pub returns-clause-cells : goal.returns-clause-cells
returns-clause-cells c = cells_wrong-read _ _ _ _ _ _ c.n-n.ensures.n c.games.ensures c.of-tables.ensures c.cells_wrong.ensures

pub returns-clause-phases : goal.returns-clause-phases
returns-clause-phases c = phases_wrong-read _ _ _ _ _ _ _ _ c.n-n.ensures.n c.phased.ensures c.games.ensures c.of-tables.ensures c.phases_wrong.ensures

pub returns-clause-played_once : goal.returns-clause-played_once
returns-clause-played_once c = none_wrong _ _ _ _ _ _ (returns-clause-pairs c) (returns-clause-cells c) (returns-clause-phases c)
