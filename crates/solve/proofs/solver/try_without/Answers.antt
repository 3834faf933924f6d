use Rattle.std.proofs.Common.{length}
use Rattle.solve.proofs.KeptLemmas.{tried-answer, tried-patterns, with-patterns}
use Rattle.solve.proofs.solver.try_without.Goals as goal

pub returns : goal.returns
returns g c =
    let by = c.in_ok-tried.ensures in
    record {
      kept = record by.kept { patterns = length c.args.log };
      are_kept = with-patterns c.args.budgets (g.W.Watch.may_stop c.args.watch.now) by.kept (length c.args.log)
          by.are_kept c.requires.kept;
      solution = tried-answer c.args.encoding.now (record by.kept { patterns = length c.args.log })
          (g.W.Watch.may_stop c.args.watch.now) c.in_ok-tried.tried _ c.solved_by.result c.solved_by.ensures.answer
          (tried-patterns c.args.encoding.now by.kept (g.W.Watch.may_stop c.args.watch.now) (length c.args.log)
          c.in_ok-tried.tried by.is_tried) c.requires.spent;
    }
