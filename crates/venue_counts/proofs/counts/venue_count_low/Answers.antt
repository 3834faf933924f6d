use Rattle.std.proofs.lemmas.Result.{IfOk-weaker}
use Rattle.venue_counts.proofs.CountedLemmas.{are_crowded-told, crowded-counted}
use Rattle.venue_counts.proofs.counts.venue_count_low.Goals as goal

pub returns-clause-crowded : goal.returns-clause-crowded
returns-clause-crowded c =
    IfOk-weaker c.count.result _ _ (λ found is. are_crowded-told c.args.league.now found is) c.count.ensures.exceeds

pub returns-clause-counted : goal.returns-clause-counted
returns-clause-counted c =
    IfOk-weaker c.count.result _ _ (λ found is. crowded-counted c.args.league.now found is) c.count.ensures.counted
