use Rattle.std.proofs.Common.{arith}
use Rattle.break_counts.proofs.LineLemmas.{clause_short}
use Rattle.break_counts.proofs.lines.is_short_clause.Goals as goal

pub returns : goal.returns
returns c holds =
    clause_short c.args.clause.now c.args.hints.now (c.have_small_variables.ensures.0 holds)
    (c.are_small.ensures.0 c.if-not-are_small.false) (omega arith) (omega arith)
