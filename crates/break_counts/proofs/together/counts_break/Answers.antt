use Rattle.break_counts.proofs.TogetherLemmas.{counts-none}
use Rattle.break_counts.proofs.together.counts_break.Goals as goal

pub returns-in_default : goal.returns-in_default
returns-in_default c =
    counts-none c.args.class.now c.args.named c.args.team c.args.slot c.in_default.not-Br1 c.in_default.not-Br2
