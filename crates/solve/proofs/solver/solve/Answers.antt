use Rattle.std.proofs.Common.{List, Option, refl, subst}
use Rattle.std.specs.Prelude.{IfSome}
use Rattle.circle_method.specs.Circle.{double_games}
use Rattle.refutation.specs.Steps.{Step}
use Rattle.solve.specs.Solutions.{RefutesLeague}
use Rattle.solve.proofs.CountingLemmas.{never_told}
use Rattle.solve.proofs.EarliestLemmas.{refuted_untried}
use Rattle.solve.proofs.KeptLemmas.{answer-unstopped, as-set}
use Rattle.solve.proofs.PlaneLemmas.{best-either, schedule-either, solution-either}
use Rattle.solve.proofs.solver.solve.Goals as goal

pub count_out-requires : goal.count_out-requires
count_out-requires g c = record { small = c.in_ok-terms.ensures.limit.within refl }

pub best_try-requires : goal.best_try-requires
best_try-requires g c = record { small = c.in_ok-terms.ensures.limit.within refl }

pub found_or_refuted-requires : goal.found_or_refuted-requires
found_or_refuted-requires g c = record { small = c.in_ok-terms.ensures.limit.within refl }

pub returns-in-Some-clause-circle : goal.returns-in-Some-clause-circle
returns-in-Some-clause-circle g c = λ accepted.
    let refutes : RefutesLeague c.args.league.now c.in-Some.log =
    subst (λ (found : Option (List Step)). IfSome found (RefutesLeague c.args.league.now)) c.in-Some.is
    c.in_ok-log.ensures.refuted in
    refutes.none (double_games c.args.league.now.n) accepted

pub returns-in-Some-clause-solution : goal.returns-in-Some-clause-solution
returns-in-Some-clause-solution g c = record {
  kept = c.args.budgets;
  are_kept = as-set c.args.budgets (g.W.Watch.may_stop c.args.watch.now);
  solution = subst (λ (found : Option (List Step)). IfSome found (RefutesLeague c.args.league.now)) c.in-Some.is
      c.in_ok-log.ensures.refuted;
}

pub returns-in-Some-clause-best : goal.returns-in-Some-clause-best
returns-in-Some-clause-best g c =
    refuted_untried c.args.league.now c.args.budgets (g.W.Watch.may_stop c.args.watch.now) c.in-Some.log (record {
      kept = c.args.budgets;
      are_kept = as-set c.args.budgets (g.W.Watch.may_stop c.args.watch.now);
      solution = subst (λ (found : Option (List Step)). IfSome found (RefutesLeague c.args.league.now)) c.in-Some.is
          c.in_ok-log.ensures.refuted;
    })

pub returns-clause-solution : goal.returns-clause-solution
returns-clause-solution g c =
    solution-either c.args.league.now c.args.budgets (g.W.Watch.may_stop c.args.watch.now) c.in_ok-found.found
    c.in_ok-solved.solved c.in_ok-found.ensures.solution c.in_ok-solved.ensures

pub returns-clause-unstopped : goal.returns-clause-unstopped
returns-clause-unstopped g c never =
    answer-unstopped c.args.league.now c.args.budgets (g.W.Watch.may_stop c.args.watch.now) _ never
    (solution-either c.args.league.now c.args.budgets (g.W.Watch.may_stop c.args.watch.now) c.in_ok-found.found
    c.in_ok-solved.solved c.in_ok-found.ensures.solution c.in_ok-solved.ensures)

pub returns-clause-best : goal.returns-clause-best
returns-clause-best g c =
    best-either c.args.league.now c.args.budgets (g.W.Watch.may_stop c.args.watch.now) c.in_ok-found.found
    c.in_ok-solved.solved c.in_ok-found.ensures.best c.in_ok-solved.ensures

pub returns-clause-circle : goal.returns-clause-circle
returns-clause-circle g c = λ accepted.
    schedule-either c.args.league.now c.in_ok-found.found c.in_ok-solved.solved
    (c.in_ok-found.ensures.circle accepted) c.in_ok-solved.ensures

pub returns-in-Some-clause-unstopped : goal.returns-in-Some-clause-unstopped
returns-in-Some-clause-unstopped g c = λ never.
    subst (λ (found : Option (List Step)). IfSome found (RefutesLeague c.args.league.now)) c.in-Some.is
    c.in_ok-log.ensures.refuted

pub returns-clause-short : goal.returns-clause-short
returns-clause-short g c = λ short.
    absurd (never_told c.in_ok-log.field-0 _ c.in_default.not-Some c.in_ok-log.ensures.short short)

pub returns-clause-crowded : goal.returns-clause-crowded
returns-clause-crowded g c = λ crowded.
    absurd (never_told c.in_ok-log.field-0 _ c.in_default.not-Some c.in_ok-log.ensures.crowded crowded)

pub returns-clause-few : goal.returns-clause-few
returns-clause-few g c = λ few.
    absurd (never_told c.in_ok-log.field-0 _ c.in_default.not-Some c.in_ok-log.ensures.few few)
