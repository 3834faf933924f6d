use Rattle.std.proofs.Common.{◌≤◌, ℕ, map, ap, subst, sym, ◌∙◌, arith}
use Rattle.std.specs.List.{All}
use Rattle.rule_core.specs.Keys.{KeyList}
use Rattle.descent.specs.Change.{games_of}
use Rattle.descent.specs.Ready.{IsReady}
use Rattle.descent.specs.Tallies.{touched_count}
use Rattle.descent.specs.declared.kept.Kept.{Kept}
use Rattle.descent.specs.declared.weighted.Weighted.{Weighted}
use Rattle.descent.proofs.CostLemmas.{both_kinds, used-again}
use Rattle.descent.proofs.weigh.weigh_rules.Goals as goal

pub weigh_kind-infeasibility-requires-clause-ready : goal.weigh_kind-infeasibility-requires-clause-ready
weigh_kind-infeasibility-requires-clause-ready g c = c.requires.ready

pub weigh_kind-infeasibility-requires-clause-reach : goal.weigh_kind-infeasibility-requires-clause-reach
weigh_kind-infeasibility-requires-clause-reach g c = c.requires.reach

pub weigh_kind-infeasibility-requires-clause-few : goal.weigh_kind-infeasibility-requires-clause-few
weigh_kind-infeasibility-requires-clause-few g c = c.requires.few

pub weigh_kind-infeasibility-requires-clause-clean : goal.weigh_kind-infeasibility-requires-clause-clean
weigh_kind-infeasibility-requires-clause-clean g c = c.requires.clean

pub weigh_kind-objective-requires-clause-reach : goal.weigh_kind-objective-requires-clause-reach
weigh_kind-objective-requires-clause-reach g c =
    subst (λ (reach : ℕ). All (λ k. g.R.Entries.reach_of k.weighted.rule ≤ reach) c.args.rules.now)
    (sym c.weigh_kind-infeasibility.ensures.bench.reach) c.requires.reach

pub weigh_kind-objective-requires-clause-few : goal.weigh_kind-objective-requires-clause-few
weigh_kind-objective-requires-clause-few g c = c.requires.few

pub weigh_kind-objective-requires-clause-clean : goal.weigh_kind-objective-requires-clause-clean
weigh_kind-objective-requires-clause-clean g c =
    ap (λ (s : KeyList). s.list) c.weigh_kind-infeasibility.ensures.bench.found ∙ c.requires.clean

pub weigh_kind-objective-requires-clause-ready : goal.weigh_kind-objective-requires-clause-ready
weigh_kind-objective-requires-clause-ready g c =
    subst (λ (s : KeyList). All (IsReady g.R.Entries c.args.change.now.table.n s.room) c.args.rules.now)
    (sym c.weigh_kind-infeasibility.ensures.bench.found) c.requires.ready

pub returns-then-infeasibility-most-clause-bench : goal.returns-then-infeasibility-most-clause-bench
returns-then-infeasibility-most-clause-bench g c = c.weigh_kind-infeasibility.ensures.bench

pub returns-then-infeasibility-most-clause-weighed : goal.returns-then-infeasibility-most-clause-weighed
returns-then-infeasibility-most-clause-weighed g c = λ m same exact. record {
  infeasibility_part = c.weigh_kind-infeasibility.ensures.part m same exact;
  objective_part = omega arith;
  infeasibility = λ within. absurd (omega (arith, within, c.if-infeasibility-most.true));
  objective = λ within also. absurd (omega (arith, within, c.if-infeasibility-most.true));
}

pub returns-then-infeasibility-most-clause-steps : goal.returns-then-infeasibility-most-clause-steps
returns-then-infeasibility-most-clause-steps g c =
    omega (
      arith,
      c.weigh_kind-infeasibility.ensures.steps,
      both_kinds (λ (w : Weighted g.row.R.Denot). touched_count g.R.Entries w.rule (games_of c.args.change.now))
          (map (λ (k : Kept g.row.R.Denot). k.weighted) c.args.rules.now),
    )

pub returns-clause-weighed : goal.returns-clause-weighed
returns-clause-weighed g c = λ m same exact. record {
  infeasibility_part = c.weigh_kind-infeasibility.ensures.part m same exact;
  objective_part = c.weigh_kind-objective.ensures.part m same exact;
  infeasibility = λ within. c.weigh_kind-infeasibility.ensures.whole m same exact within;
  objective = λ within also. c.weigh_kind-objective.ensures.whole m same exact also;
}

pub returns-clause-steps : goal.returns-clause-steps
returns-clause-steps g c =
    omega (
      arith,
      c.weigh_kind-infeasibility.ensures.steps,
      c.weigh_kind-objective.ensures.steps,
      both_kinds (λ (w : Weighted g.row.R.Denot). touched_count g.R.Entries w.rule (games_of c.args.change.now))
          (map (λ (k : Kept g.row.R.Denot). k.weighted) c.args.rules.now),
    )

pub returns-clause-bench : goal.returns-clause-bench
returns-clause-bench g c =
    used-again c.args.bench.now c.weigh_kind-infeasibility.new.bench c.weigh_kind-objective.new.bench
    c.weigh_kind-infeasibility.ensures.bench c.weigh_kind-objective.ensures.bench
