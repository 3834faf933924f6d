use Rattle.break_counts.proofs.SumLaws.{added-none}
use Rattle.break_counts.proofs.laws.added_breaks_allow_none.Goals as goal

pub returns : goal.returns
returns c = added-none
