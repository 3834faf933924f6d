use Rattle.std.proofs.Common.{arith}
use Rattle.rows.proofs.TableLemmas.{count_at-grown}
use Rattle.rows.proofs.sum.grow.Goals as goal

pub returns-clause-counts : goal.returns-clause-counts
returns-clause-counts c =
    count_at-grown _ _ _ _ (omega (arith, c.args.counts.now.ok)) c.in_ok-resize.ensures.items
