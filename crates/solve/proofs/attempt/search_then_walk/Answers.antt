use Rattle.solve.proofs.KeptLemmas.{walked-by}
use Rattle.solve.proofs.attempt.search_then_walk.Goals as goal

pub returns : goal.returns
returns g c =
    walked-by c.args.encoding.now c.args.share.budgets (g.W.Watch.may_stop c.args.watch.now) c.in_ok-found.found
    c.in_ok-walked.walked c.with_walked.result c.in_ok-found.ensures (rw c.league.ensures at c.in_ok-walked.ensures)
    c.with_walked.ensures.kept
