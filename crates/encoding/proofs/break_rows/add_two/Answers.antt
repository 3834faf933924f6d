use Rattle.encoding.proofs.TieLemmas.{two_differ}
use Rattle.encoding.proofs.break_rows.add_two.Goals as goal

pub push_at_least-requires-clause-variables : goal.push_at_least-requires-clause-variables
push_at_least-requires-clause-variables c = two_differ c.args.first c.args.second c.requires.order
