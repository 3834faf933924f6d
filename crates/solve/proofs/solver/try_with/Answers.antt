use Rattle.solve.proofs.KeptLemmas.{tried-answer}
use Rattle.solve.proofs.solver.try_with.Goals as goal

pub returns : goal.returns
returns g c =
    let by = c.in_ok-tried.ensures in
    record {
      kept = by.kept;
      are_kept = by.are_kept;
      solution = tried-answer c.args.encoding.now by.kept (g.W.Watch.may_stop c.args.watch.now) c.in_ok-tried.tried _
          c.solved_by.result c.solved_by.ensures.answer by.is_tried c.requires.set;
    }
