use Rattle.std.proofs.Common.{Option, ℕ, subst}
use Rattle.robin_watch.specs.Limits.{IsKeptTo}
use Rattle.solve.specs.Solutions.{HasSchedule, IsRefuted, IsSolution}
use Rattle.solve.specs.declared.solved.Solved.{Solved}
use Rattle.explain.proofs.LimitLemmas.{limit-kept}
use Rattle.explain.proofs.attempt.searched.Goals as goal

pub returns-in-Schedule-clause-attempt : goal.returns-in-Schedule-clause-attempt
returns-in-Schedule-clause-attempt g c =
    let by = c.in_ok-schedule.ensures.solution in
    let found = subst
    (λ (s : Solved). IsSolution c.args.league.now by.kept (g.W.Watch.may_stop c.args.watch.now) s) c.in-Schedule.is
    by.solution in (
      record { accepted = found.accepted; fit = found.fit; in_order = found.in_order },
      found.cost,
    )

pub returns-in-Refuted-clause-attempt : goal.returns-in-Refuted-clause-attempt
returns-in-Refuted-clause-attempt g c =
    let by = c.in_ok-schedule.ensures.solution in
    subst (λ (s : Solved). IsSolution c.args.league.now by.kept (g.W.Watch.may_stop c.args.watch.now) s)
    c.in-Refuted.is by.solution

pub returns-in-Spent-clause-attempt : goal.returns-in-Spent-clause-attempt
returns-in-Spent-clause-attempt g c =
    let by = c.in_ok-schedule.ensures.solution in
    record {
      kept = by.kept.conflicts;
      is_kept = subst (λ (limit : Option ℕ). IsKeptTo limit (g.W.Watch.may_stop c.args.watch.now) by.kept.conflicts)
          c.budgets_of.ensures.conflicts by.are_kept.conflicts;
      spent = (subst
          (λ (s : Solved). IsSolution c.args.league.now by.kept (g.W.Watch.may_stop c.args.watch.now) s)
          c.in-Spent.is by.solution).0;
    }

pub returns-in-Schedule-clause-limit : goal.returns-in-Schedule-clause-limit
returns-in-Schedule-clause-limit g c = limit-kept _ _ _ c.in_ok-schedule.ensures.limit

pub returns-in-Schedule-clause-short : goal.returns-in-Schedule-clause-short
returns-in-Schedule-clause-short g c short = subst (λ (s : Solved). IsRefuted s) c.in-Schedule.is (c.in_ok-schedule.ensures.short short)

pub returns-in-Schedule-clause-crowded : goal.returns-in-Schedule-clause-crowded
returns-in-Schedule-clause-crowded g c crowded = subst (λ (s : Solved). IsRefuted s) c.in-Schedule.is (c.in_ok-schedule.ensures.crowded crowded)

pub returns-in-Schedule-clause-few : goal.returns-in-Schedule-clause-few
returns-in-Schedule-clause-few g c few = subst (λ (s : Solved). IsRefuted s) c.in-Schedule.is (c.in_ok-schedule.ensures.few few)

pub returns-in-Refuted-clause-limit : goal.returns-in-Refuted-clause-limit
returns-in-Refuted-clause-limit g c = limit-kept _ _ _ c.in_ok-schedule.ensures.limit

pub returns-in-Refuted-clause-circle : goal.returns-in-Refuted-clause-circle
returns-in-Refuted-clause-circle g c accepted =
    subst (λ (s : Solved). HasSchedule s) c.in-Refuted.is (c.in_ok-schedule.ensures.circle accepted)

pub returns-in-Spent-clause-limit : goal.returns-in-Spent-clause-limit
returns-in-Spent-clause-limit g c = limit-kept _ _ _ c.in_ok-schedule.ensures.limit

pub returns-in-Spent-clause-circle : goal.returns-in-Spent-clause-circle
returns-in-Spent-clause-circle g c accepted =
    subst (λ (s : Solved). HasSchedule s) c.in-Spent.is (c.in_ok-schedule.ensures.circle accepted)

pub returns-in-Spent-clause-short : goal.returns-in-Spent-clause-short
returns-in-Spent-clause-short g c short = subst (λ (s : Solved). IsRefuted s) c.in-Spent.is (c.in_ok-schedule.ensures.short short)

pub returns-in-Spent-clause-crowded : goal.returns-in-Spent-clause-crowded
returns-in-Spent-clause-crowded g c crowded = subst (λ (s : Solved). IsRefuted s) c.in-Spent.is (c.in_ok-schedule.ensures.crowded crowded)

pub returns-in-Spent-clause-few : goal.returns-in-Spent-clause-few
returns-in-Spent-clause-few g c few = subst (λ (s : Solved). IsRefuted s) c.in-Spent.is (c.in_ok-schedule.ensures.few few)
