use Rattle.std.proofs.Common.{arith, subst}
use Rattle.encoding.specs.Variables.{var_count}
use Rattle.explain.specs.Attempts.{IsAttempt, IsMet, IsRefuted}
use Rattle.explain.specs.declared.attempt.Attempt.{Attempt}
use Rattle.explain.proofs.ConflictLemmas.{not_spent_by}
use Rattle.explain.proofs.LimitLemmas.{limit-kept}
use Rattle.explain.proofs.explainer.explain.Goals as goal

-- ---- a schedule

pub returns-in-Met-clause-limit : goal.returns-in-Met-clause-limit
returns-in-Met-clause-limit g c = limit-kept _ _ _ c.in_ok-schedule.ensures.limit

pub returns-in-Met-clause-explanation : goal.returns-in-Met-clause-explanation
returns-in-Met-clause-explanation g c =
    subst
    (λ (a : Attempt). IsAttempt c.args.league.now c.args.conflicts (g.W.Watch.may_stop c.args.watch.now) a)
    c.in-Met.is c.in_ok-schedule.ensures.attempt

pub returns-in-Met-clause-short : goal.returns-in-Met-clause-short
returns-in-Met-clause-short g c short =
    subst (λ (a : Attempt). IsRefuted a) c.in-Met.is (c.in_ok-schedule.ensures.short short)

pub returns-in-Met-clause-crowded : goal.returns-in-Met-clause-crowded
returns-in-Met-clause-crowded g c crowded =
    subst (λ (a : Attempt). IsRefuted a) c.in-Met.is (c.in_ok-schedule.ensures.crowded crowded)

pub returns-in-Met-clause-few : goal.returns-in-Met-clause-few
returns-in-Met-clause-few g c few =
    subst (λ (a : Attempt). IsRefuted a) c.in-Met.is (c.in_ok-schedule.ensures.few few)

-- ---- a log that is spent

pub returns-in-Spent-clause-limit : goal.returns-in-Spent-clause-limit
returns-in-Spent-clause-limit g c = limit-kept _ _ _ c.in_ok-schedule.ensures.limit

pub returns-in-Spent-clause-explanation : goal.returns-in-Spent-clause-explanation
returns-in-Spent-clause-explanation g c =
    subst
    (λ (a : Attempt). IsAttempt c.args.league.now c.args.conflicts (g.W.Watch.may_stop c.args.watch.now) a)
    c.in-Spent.is c.in_ok-schedule.ensures.attempt

pub returns-in-Spent-clause-decided : goal.returns-in-Spent-clause-decided
returns-in-Spent-clause-decided g c never ample =
    not_spent_by c.args.league.now (var_count c.args.league.now) c.args.conflicts
    (g.W.Watch.may_stop c.args.watch.now) c.in-Spent.log never ample (omega arith)
    (subst
    (λ (a : Attempt). IsAttempt c.args.league.now c.args.conflicts (g.W.Watch.may_stop c.args.watch.now) a)
    c.in-Spent.is c.in_ok-schedule.ensures.attempt)

pub returns-in-Spent-clause-circle : goal.returns-in-Spent-clause-circle
returns-in-Spent-clause-circle g c accepted =
    subst (λ (a : Attempt). IsMet a) c.in-Spent.is (c.in_ok-schedule.ensures.circle accepted)

pub returns-in-Spent-clause-short : goal.returns-in-Spent-clause-short
returns-in-Spent-clause-short g c short =
    subst (λ (a : Attempt). IsRefuted a) c.in-Spent.is (c.in_ok-schedule.ensures.short short)

pub returns-in-Spent-clause-crowded : goal.returns-in-Spent-clause-crowded
returns-in-Spent-clause-crowded g c crowded =
    subst (λ (a : Attempt). IsRefuted a) c.in-Spent.is (c.in_ok-schedule.ensures.crowded crowded)

pub returns-in-Spent-clause-few : goal.returns-in-Spent-clause-few
returns-in-Spent-clause-few g c few =
    subst (λ (a : Attempt). IsRefuted a) c.in-Spent.is (c.in_ok-schedule.ensures.few few)

-- ---- a conflict

pub conflict-requires-clause-refuted : goal.conflict-requires-clause-refuted
conflict-requires-clause-refuted g c =
    subst
    (λ (a : Attempt). IsAttempt c.args.league.now c.args.conflicts (g.W.Watch.may_stop c.args.watch.now) a)
    c.in-Refuted.is c.in_ok-schedule.ensures.attempt

pub returns-in_ok-conflict-in-Refuted-clause-limit : goal.returns-in_ok-conflict-in-Refuted-clause-limit
returns-in_ok-conflict-in-Refuted-clause-limit g c = limit-kept _ _ _ c.in_ok-schedule.ensures.limit

pub returns-in_ok-conflict-in-Refuted-clause-circle : goal.returns-in_ok-conflict-in-Refuted-clause-circle
returns-in_ok-conflict-in-Refuted-clause-circle g c accepted =
    absurd (subst (λ (a : Attempt). IsMet a) c.in-Refuted.is (c.in_ok-schedule.ensures.circle accepted))
