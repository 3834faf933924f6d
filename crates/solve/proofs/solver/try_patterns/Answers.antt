use Rattle.std.proofs.Common.{Some}
use Rattle.solve.proofs.AnswerLemmas.{few_variables, found_here, patterns_refuted, spent_here}
use Rattle.solve.proofs.KeptLemmas.{as-set}
use Rattle.solve.proofs.solver.try_patterns.Goals as goal

pub returns-in-Refuted : goal.returns-in-Refuted
returns-in-Refuted g c = record {
  kept = c.args.budgets;
  are_kept = as-set c.args.budgets (g.W.Watch.may_stop c.args.watch.now);
  solution = patterns_refuted c.args.encoding.now c.in_ok-found.ensures.kept c.in-Refuted.log
      (few_variables c.args.encoding.now c.vars-vars.result c.vars-vars.ensures.vars c.vars-vars.ensures.at_most)
      (found_here c.args.encoding.now c.in_ok-found.ensures.kept _ _ c.in-Refuted.is c.in_ok-found.ensures.answer);
}

pub try_with-requires : goal.try_with-requires
try_with-requires g c = record {
  set = found_here c.args.encoding.now c.in_ok-found.ensures.kept _ _ c.in-Patterns.is c.in_ok-found.ensures.answer;
}

pub try_without-requires-clause-kept : goal.try_without-requires-clause-kept
try_without-requires-clause-kept g c =
    (spent_here c.args.encoding.now (Some c.args.budgets.patterns) (g.W.Watch.may_stop c.args.watch.now)
    c.in_ok-found.found c.in-Spent.log c.in-Spent.is c.in_ok-found.ensures).0

pub try_without-requires-clause-spent : goal.try_without-requires-clause-spent
try_without-requires-clause-spent g c =
    (spent_here c.args.encoding.now (Some c.args.budgets.patterns) (g.W.Watch.may_stop c.args.watch.now)
    c.in_ok-found.found c.in-Spent.log c.in-Spent.is c.in_ok-found.ensures).1
