use Rattle.std.proofs.Common.{rules}
use Rattle.refutation_check.proofs.LastLemmas.{last-all}
use Rattle.refutation_check.proofs.last.LastNames.of.Goals as goal

pub returns-clause-last : goal.returns-clause-last
returns-clause-last c =
    last-all c.args.before c.args.log.now c.loop-k.k c.loop-k.last.items (search rules) c.loop-k.invariant.last
    c.loop-k.invariant.even
