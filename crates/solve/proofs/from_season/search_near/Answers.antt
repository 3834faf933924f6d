use Rattle.std.proofs.Common.{Some, length}
use Rattle.solve.proofs.AnswerLemmas.{few_variables, found_here, patterns_refuted, spent_here}
use Rattle.solve.proofs.KeptLemmas.{as-set, tried-answer, tried-patterns, with-patterns}
use Rattle.solve.proofs.from_season.search_near.Goals as goal

pub returns-in-Refuted : goal.returns-in-Refuted
returns-in-Refuted g c = record {
  kept = c.args.budgets;
  are_kept = as-set c.args.budgets (g.W.Watch.may_stop c.args.watch.now);
  solution = patterns_refuted c.args.encoding.now c.in_ok-found.ensures.kept c.in-Refuted.log
      (few_variables c.args.encoding.now c.vars-vars.result c.vars-vars.ensures.vars c.vars-vars.ensures.at_most)
      (found_here c.args.encoding.now c.in_ok-found.ensures.kept _ _ c.in-Refuted.is c.in_ok-found.ensures.answer);
}

pub returns-in_ok-tried-in-Patterns : goal.returns-in_ok-tried-in-Patterns
returns-in_ok-tried-in-Patterns g c =
    let by = c.in_ok-tried-in-Patterns.ensures in
    record {
      kept = by.kept;
      are_kept = by.are_kept;
      solution = tried-answer c.args.encoding.now by.kept (g.W.Watch.may_stop c.args.watch.now)
          c.in_ok-tried-in-Patterns.tried _ c.solved_by.result c.solved_by.ensures.answer by.is_tried
          (found_here c.args.encoding.now c.in_ok-found.ensures.kept _ _ c.in-Patterns.is
          c.in_ok-found.ensures.answer);
    }

pub returns-in_ok-tried-in-Spent : goal.returns-in_ok-tried-in-Spent
returns-in_ok-tried-in-Spent g c =
    let by = c.in_ok-tried-in-Spent.ensures in
    let spent = spent_here c.args.encoding.now (Some c.args.budgets.patterns)
    (g.W.Watch.may_stop c.args.watch.now) c.in_ok-found.found c.in-Spent.log c.in-Spent.is c.in_ok-found.ensures in
    record {
      kept = record by.kept { patterns = length c.in-Spent.log };
      are_kept = with-patterns c.args.budgets (g.W.Watch.may_stop c.args.watch.now) by.kept
          (length c.in-Spent.log) by.are_kept spent.0;
      solution = tried-answer c.args.encoding.now (record by.kept { patterns = length c.in-Spent.log })
          (g.W.Watch.may_stop c.args.watch.now) c.in_ok-tried-in-Spent.tried _ c.solved_by-in-Spent.result
          c.solved_by-in-Spent.ensures.answer
          (tried-patterns c.args.encoding.now by.kept (g.W.Watch.may_stop c.args.watch.now) (length c.in-Spent.log)
          c.in_ok-tried-in-Spent.tried by.is_tried) spent.1;
    }
