use Rattle.refutation.proofs.FlatLemmas.{end_before-get_or}
use Rattle.refutation.proofs.log.end_before.Goals as goal

pub returns-else-k-eq0 : goal.returns-else-k-eq0
returns-else-k-eq0 c = end_before-get_or _ _ _ c.if-k-eq0.false c.requires
