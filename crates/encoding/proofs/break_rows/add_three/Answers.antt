use Rattle.encoding.proofs.TieLemmas.{three_differ}
use Rattle.encoding.proofs.break_rows.add_three.Goals as goal

pub push_at_least-requires-clause-variables : goal.push_at_least-requires-clause-variables
push_at_least-requires-clause-variables c = three_differ c.args.first c.args.second c.args.third c.requires.start
    c.requires.order
