use Rattle.solve.proofs.KeptLemmas.{later-by}
use Rattle.solve.proofs.from_season.best_walk.Goals as goal

pub loop-k-preserved : goal.loop-k-preserved
loop-k-preserved g c = record {
  solution = later-by c.args.league.now c.args.budgets (g.W.Watch.may_stop c.args.watch.now) c.loop-k.best
      c.with_later-best.result c.in_ok-walked.walked c.loop-k.invariant.solution c.in_ok-walked.ensures.season
      c.with_later-best.ensures.kept;
  at_most = λ most costs. c.with_later-best.ensures.at_most most (c.loop-k.invariant.at_most most costs);
  schedule = λ has. c.with_later-best.ensures.schedule (c.loop-k.invariant.schedule has);
}
