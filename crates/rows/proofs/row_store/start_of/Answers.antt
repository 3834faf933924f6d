use Rattle.rows.proofs.FlatLemmas.{start_of-before}
use Rattle.rows.proofs.row_store.start_of.Goals as goal

pub returns-else-k-eq0 : goal.returns-else-k-eq0
returns-else-k-eq0 c = start_of-before _ _ _ c.if-k-eq0.false c.requires
