use Rattle.std.proofs.Common.{◌∙◌}
use Rattle.break_counts.proofs.TogetherLemmas.{all-together}
use Rattle.break_counts.proofs.together.allowed_together.Goals as goal

pub returns : goal.returns
returns c =
    c.saturating_add.ensures
    ∙ all-together c.args.league.now.n c.args.league.now.constraints c.args.summands.now c.args.stretches.now
    c.args.allowed.now c.total_beside-beside.result c.total_of.result c.requires.table c.total_beside-beside.ensures.sum
    c.total_of.ensures
