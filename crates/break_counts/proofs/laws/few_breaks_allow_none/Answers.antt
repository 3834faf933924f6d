use Rattle.break_counts.proofs.FewLaws.{few-none}
use Rattle.break_counts.proofs.laws.few_breaks_allow_none.Goals as goal

pub returns : goal.returns
returns c = few-none
