use Rattle.std.proofs.Common.{subst}
use Rattle.clause_search.specs.declared.found.Found.{Found}
use Rattle.league_search.specs.Answers.{IsLeagueAnswer}
use Rattle.solve.proofs.AnswerLemmas.{refuted-tried}
use Rattle.solve.proofs.KeptLemmas.{tried-season, with-conflicts}
use Rattle.solve.proofs.attempt.answer.Goals as goal

pub returns-in_ok-season-in-Sat : goal.returns-in_ok-season-in-Sat
returns-in_ok-season-in-Sat g c =
    tried-season c.args.encoding.now c.args.budgets (g.W.Watch.may_stop c.args.watch.now) c.in_ok-season-in-Sat.season
    c.in_ok-season-in-Sat.ensures

pub returns-in-Refuted : goal.returns-in-Refuted
returns-in-Refuted g c = record {
  kept = record c.args.budgets { conflicts = c.requires.found.kept };
  are_kept = with-conflicts c.args.budgets (g.W.Watch.may_stop c.args.watch.now) c.requires.found.kept
      c.requires.found.is_kept;
  is_tried = refuted-tried c.args.encoding.now c.requires.found.kept c.in-Refuted.log
      c.vars-vars.ensures.instance
      (subst (λ (f : Found). IsLeagueAnswer c.args.encoding.now c.requires.found.kept f) c.in-Refuted.is
      c.requires.found.answer);
}

pub returns-in-Spent : goal.returns-in-Spent
returns-in-Spent g c = record {
  kept = record c.args.budgets { conflicts = c.requires.found.kept };
  are_kept = with-conflicts c.args.budgets (g.W.Watch.may_stop c.args.watch.now) c.requires.found.kept
      c.requires.found.is_kept;
  is_tried = subst (λ (f : Found). IsLeagueAnswer c.args.encoding.now c.requires.found.kept f) c.in-Spent.is
      c.requires.found.answer;
}
