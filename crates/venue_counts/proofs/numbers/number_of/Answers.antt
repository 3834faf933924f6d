use Rattle.std.proofs.Common.{arith}
use Rattle.rows.specs.Cardinality.{at_least}
use Rattle.venue_counts.proofs.NumberedLemmas.{placed}
use Rattle.venue_counts.proofs.numbers.number_of.Goals as goal

pub unreachable-requires : goal.unreachable-requires
unreachable-requires c =
    let at = placed c.args.rows.now c.args.places.start c.args.places.end
    (at_least c.args.degree c.args.literals.now) c.requires.order c.requires.within c.requires.there in
    c.loop-k.invariant at.place at.behind (omega (arith, at.before)) at.there
