use Rattle.break_counts.proofs.TogetherLemmas.{allows-none}
use Rattle.break_counts.proofs.together.most_breaks.Goals as goal

pub returns-in_default : goal.returns-in_default
returns-in_default c = allows-none c.args.class.now c.in_default.not-Br1 c.in_default.not-Br2
