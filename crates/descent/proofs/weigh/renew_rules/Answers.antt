use Rattle.std.proofs.Common.{◌≡◌, ◌<◌, ◌≤◌, ℕ, List, length, get_or, ap, subst, sym, ◌∙◌, arith}
use Rattle.std.proofs.lemmas.List.{get_or-set_other, take_all}
use Rattle.std.proofs.lemmas.List.Elements.{AllWithin-more_set}
use Rattle.std.proofs.lemmas.List.Sums.{get_or-le-sum_by, sum_by_more}
use Rattle.std.specs.List.{sum_by}
use Rattle.rule_core.specs.Table.{table_counts}
use Rattle.descent.specs.Change.{games_of}
use Rattle.descent.specs.Ready.{IsExact, hard_cost, soft_cost}
use Rattle.descent.specs.Tallies.{touched_count}
use Rattle.descent.specs.declared.kept.Kept.{Kept}
use Rattle.descent.specs.declared.weighted.Weighted.{Weighted}
use Rattle.descent.proofs.CostLemmas.{AreReady-next, hard_fits, soft_fits, weights-next, weights_summed}
use Rattle.descent.proofs.weigh.renew_rules.Goals as goal

pub renew_weighed-requires-clause-ready : goal.renew_weighed-requires-clause-ready
renew_weighed-requires-clause-ready g c =
    c.loop-kept.invariant.ready.ready c.loop-kept.kept-index c.kept-item.result
    (omega (arith, c.loop-kept-test.true, c.loop-kept.auto.rules))

pub renew_weighed-requires-clause-reach : goal.renew_weighed-requires-clause-reach
renew_weighed-requires-clause-reach g c =
    c.loop-kept.invariant.ready.reach c.loop-kept.kept-index c.kept-item.result
    (omega (arith, c.loop-kept-test.true, c.loop-kept.auto.rules))

pub renew_weighed-requires-clause-clean : goal.renew_weighed-requires-clause-clean
renew_weighed-requires-clause-clean g c = c.loop-kept.invariant.ready.clean

pub renew_weighed-requires-clause-infeasibility : goal.renew_weighed-requires-clause-infeasibility
renew_weighed-requires-clause-infeasibility g c =
    subst (λ (sum : ℕ). hard_cost (get_or c.loop-kept.rules c.loop-kept.kept-index c.kept-item.result) ≤ sum)
    (sym c.loop-kept.invariant.ready.infeasibility)
    (get_or-le-sum_by hard_cost c.loop-kept.rules c.loop-kept.kept-index c.kept-item.result
    (omega (arith, c.loop-kept-test.true, c.loop-kept.auto.rules)))

pub renew_weighed-requires-clause-objective : goal.renew_weighed-requires-clause-objective
renew_weighed-requires-clause-objective g c =
    subst (λ (sum : ℕ). soft_cost (get_or c.loop-kept.rules c.loop-kept.kept-index c.kept-item.result) ≤ sum)
    (sym c.loop-kept.invariant.ready.objective)
    (get_or-le-sum_by soft_cost c.loop-kept.rules c.loop-kept.kept-index c.kept-item.result
    (omega (arith, c.loop-kept-test.true, c.loop-kept.auto.rules)))

pub renew_weighed-requires-clause-infeasibility_room : goal.renew_weighed-requires-clause-infeasibility_room
renew_weighed-requires-clause-infeasibility_room g c = omega (arith, hard_fits g.R.Entries c.args.change.now.table.n c.loop-kept.bench.found.room c.loop-kept.rules c.loop-kept.invariant.ready.ready, c.loop-kept.invariant.ready.infeasibility, c.loop-kept.invariant.ready.few)

pub renew_weighed-requires-clause-objective_room : goal.renew_weighed-requires-clause-objective_room
renew_weighed-requires-clause-objective_room g c = omega (arith, soft_fits g.R.Entries c.args.change.now.table.n c.loop-kept.bench.found.room c.loop-kept.rules c.loop-kept.invariant.ready.ready, c.loop-kept.invariant.ready.objective, c.loop-kept.invariant.ready.few)

pub loop-kept-preserved : goal.loop-kept-preserved
loop-kept-preserved g c =
    let rules = c.loop-kept.rules in
    let at = c.loop-kept.kept-index in
    let d = c.kept-item.result in
    let new = c.renew_weighed.new.self in
    let within : at < length rules = omega (arith, c.loop-kept-test.true, c.loop-kept.auto.rules) in
    let before : at < length c.args.rules.now = omega (arith, c.loop-kept-test.true, c.loop-kept.auto.rules) in
    let same_item : get_or rules at d ≡ get_or c.args.rules.now at d = c.loop-kept.invariant.later at d (omega arith) in
    record {
      weights = weights-next rules at d new c.renew_weighed.ensures.weighted ∙ c.loop-kept.invariant.weights;
      later = λ k e h. get_or-set_other rules at k new e (λ is. absurd (omega (arith, is, h))) ∙ c.loop-kept.invariant.later k e (omega (arith, h));
      ready = AreReady-next g.R.Entries c.args.change.now.table.n c.loop-kept.bench c.renew_weighed.new.bench rules
          c.loop-kept.sums c.renew_weighed.new.sums at d new within c.loop-kept.invariant.ready
          c.renew_weighed.ensures.weighted c.renew_weighed.ensures.ready c.renew_weighed.ensures.bench
          c.renew_weighed.ensures.infeasibility c.renew_weighed.ensures.objective;
      exact = λ m same was. AllWithin-more_set rules at new within
          (IsExact g.R.Entries (table_counts c.args.change.now.table)) (c.loop-kept.invariant.exact m same was)
          (c.renew_weighed.ensures.exact m same
          (subst (λ (k : Kept g.row.R.Denot). IsExact g.R.Entries m k) (sym same_item) (was at d before)));
      steps = omega (
        arith,
        c.renew_weighed.ensures.steps,
        c.loop-kept.invariant.steps,
        sum_by_more
            (λ (k : Kept g.row.R.Denot). touched_count g.R.Entries k.weighted.rule (games_of c.args.change.now))
            c.args.rules.now at d before,
        ap
            (λ (k : Kept g.row.R.Denot). touched_count g.R.Entries k.weighted.rule (games_of c.args.change.now))
            same_item,
      );
    }

pub returns-clause-weights : goal.returns-clause-weights
returns-clause-weights g c = c.loop-kept.invariant.weights

pub returns-clause-ready : goal.returns-clause-ready
returns-clause-ready g c = c.loop-kept.invariant.ready

pub returns-clause-exact : goal.returns-clause-exact
returns-clause-exact g c = λ m same was k d h. c.loop-kept.invariant.exact m same was k d (omega arith) (omega (arith, h, c.loop-kept-test.false, c.loop-kept.auto.rules))

pub returns-clause-steps : goal.returns-clause-steps
returns-clause-steps g c =
    let f : Weighted g.row.R.Denot → ℕ = λ w. touched_count g.R.Entries w.rule (games_of c.args.change.now) in
    omega (
      arith,
      c.loop-kept.invariant.steps,
      ap
          (λ (l : List (Kept g.row.R.Denot)). sum_by (λ k. f k.weighted) l)
          (take_all c.loop-kept.kept-index c.args.rules.now (omega (arith, c.loop-kept-test.false, c.loop-kept.auto.rules))),
      weights_summed f c.args.rules.now,
    )
