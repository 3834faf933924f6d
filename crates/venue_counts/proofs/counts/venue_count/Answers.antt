use Rattle.std.proofs.lemmas.Result.{IfOk-weaker}
use Rattle.venue_counts.proofs.CountedLemmas.{are_short-told, short-counted}
use Rattle.venue_counts.proofs.counts.venue_count.Goals as goal

pub returns-clause-short : goal.returns-clause-short
returns-clause-short c =
    IfOk-weaker c.count.result _ _ (λ found is. are_short-told c.args.league.now found c.count.ensures.instance is)
    c.count.ensures.exceeds

pub returns-clause-counted : goal.returns-clause-counted
returns-clause-counted c =
    IfOk-weaker c.count.result _ _ (λ found is. short-counted c.args.league.now found c.count.ensures.instance is)
    c.count.ensures.counted
