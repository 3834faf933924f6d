use Rattle.std.proofs.Common.{arith}
use Rattle.break_counts.proofs.LineLemmas.{linear_short}
use Rattle.break_counts.proofs.lines.is_short_sum.Goals as goal

pub returns : goal.returns
returns c holds =
    linear_short c.args.parts.now c.args.divisor (c.have_small_numbers.ensures.0 holds) (omega arith) (omega arith)
