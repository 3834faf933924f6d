use Rattle.std.proofs.Common.{◌+◌, length, ap, refl, subst, sym, ℕ, take, arith}
use Rattle.std.proofs.lemmas.List.Sums.{sum_by-take-le}
use Rattle.std.specs.List.{sum_by}
use Rattle.rule_core.specs.Table.{table_counts}
use Rattle.rule_core.specs.Keys.{KeyList}
use Rattle.descent.specs.Change.{games_of}
use Rattle.descent.specs.Ready.{IsExact}
use Rattle.descent.specs.Tallies.{cost_on, touched_count}
use Rattle.descent.specs.Weighing.{if_kind}
use Rattle.descent.specs.declared.kept.Kept.{Kept}
use Rattle.descent.specs.declared.weighted.Weighted.{Weighted}
use Rattle.descent.proofs.CostLemmas.{item_ready, kind_more, kind_part, kind_whole, small_more, used-again}
use Rattle.descent.proofs.weigh.weigh_kind.Goals as goal

pub weigh_cost-cost-requires-clause-ready : goal.weigh_cost-cost-requires-clause-ready
weigh_cost-cost-requires-clause-ready g c =
    item_ready g.R.Entries c.args.change.now.table.n c.args.bench.now.found.room c.loop-kept.bench.found.room c.args.rules.now
    c.loop-kept.kept-index c.kept-item.result c.requires.ready c.loop-kept-test.true c.kept-item.is
    (ap (λ (s : KeyList). s.room) c.loop-kept.invariant.bench.found)

pub weigh_cost-cost-requires-clause-reach : goal.weigh_cost-cost-requires-clause-reach
weigh_cost-cost-requires-clause-reach g c =
    omega (
      arith,
      c.requires.reach c.loop-kept.kept-index c.kept-item.result c.loop-kept-test.true,
      ap (λ (k : Kept g.row.R.Denot). g.R.Entries.reach_of k.weighted.rule) c.kept-item.is,
      c.loop-kept.invariant.bench.reach,
    )

pub overflow_add-sum : goal.overflow_add-sum
overflow_add-sum g c =
    omega (
      arith,
      small_more c.args.rules.now c.loop-kept.kept-index c.loop-kept.sum (c.loop-kept.sum + c.weigh_cost-cost.result)
          c.weigh_cost-cost.result c.kept-item.result c.loop-kept-test.true c.kept-item.is
          c.weigh_cost-cost.ensures.small c.loop-kept.invariant.small refl,
      sum_by-take-le (λ (k : Kept g.row.R.Denot). length k.vector.items) c.args.rules.now (c.loop-kept.kept-index + 1),
      c.requires.few,
    )

pub returns-then-sum-limit-clause-part : goal.returns-then-sum-limit-clause-part
returns-then-sum-limit-clause-part g c = λ m same exact.
    let rules = c.args.rules.now in
    let at = c.loop-kept.kept-index in
    let f : Weighted g.row.R.Denot → ℕ = cost_on g.R.Entries (table_counts c.args.change.now.table) in
    kind_part c.args.limit.hard f rules (at + 1) (c.loop-kept.sum + c.weigh_cost-cost.result)
    (kind_more c.args.limit.hard f rules at c.loop-kept.sum (c.loop-kept.sum + c.weigh_cost-cost.result)
    c.weigh_cost-cost.result c.kept-item.result c.loop-kept-test.true c.kept-item.is
    (c.weigh_cost-cost.ensures.exact m same
    (subst (λ (k : Kept g.row.R.Denot). IsExact g.R.Entries m k) (sym c.kept-item.is)
    (exact at c.kept-item.result c.loop-kept-test.true)))
    (c.loop-kept.invariant.exact m same exact) refl)

pub returns-then-sum-limit-clause-whole : goal.returns-then-sum-limit-clause-whole
returns-then-sum-limit-clause-whole g c = λ m same exact within. absurd (omega (arith, within, c.if-sum-limit.true))

pub returns-then-sum-limit-clause-steps : goal.returns-then-sum-limit-clause-steps
returns-then-sum-limit-clause-steps g c =
    let rules = c.args.rules.now in
    let at = c.loop-kept.kept-index in
    let f : Weighted g.row.R.Denot → ℕ = λ w. touched_count g.R.Entries w.rule (games_of c.args.change.now) in
    let before : ℕ = sum_by (λ (k : Kept g.row.R.Denot). if_kind c.args.limit.hard f k.weighted) (take at rules) in
    let more : ℕ = if_kind c.args.limit.hard f c.kept-item.result.weighted in
    omega (
      arith,
      c.weigh_cost-cost.ensures.steps,
      c.loop-kept.invariant.steps,
      kind_part c.args.limit.hard f rules (at + 1) (before + more)
          (kind_more c.args.limit.hard f rules at before (before + more) more c.kept-item.result c.loop-kept-test.true
          c.kept-item.is refl refl refl),
    )

pub loop-kept-preserved : goal.loop-kept-preserved
loop-kept-preserved g c =
    let rules = c.args.rules.now in
    let at = c.loop-kept.kept-index in
    let sum : ℕ = c.loop-kept.sum + c.weigh_cost-cost.result in
    let touched : Weighted g.row.R.Denot → ℕ = λ w. touched_count g.R.Entries w.rule (games_of c.args.change.now) in
    let before : ℕ = sum_by (λ (k : Kept g.row.R.Denot). if_kind c.args.limit.hard touched k.weighted) (take at rules) in
    let more : ℕ = if_kind c.args.limit.hard touched c.kept-item.result.weighted in
    record {
      bench = used-again c.args.bench.now c.loop-kept.bench c.weigh_cost-cost.new.bench c.loop-kept.invariant.bench
          c.weigh_cost-cost.ensures.bench;
      small = small_more rules at c.loop-kept.sum sum c.weigh_cost-cost.result c.kept-item.result c.loop-kept-test.true
          c.kept-item.is c.weigh_cost-cost.ensures.small c.loop-kept.invariant.small refl;
      exact = λ m same exact. kind_more c.args.limit.hard (cost_on g.R.Entries (table_counts c.args.change.now.table)) rules at
          c.loop-kept.sum sum c.weigh_cost-cost.result c.kept-item.result c.loop-kept-test.true c.kept-item.is
          (c.weigh_cost-cost.ensures.exact m same
          (subst (λ (k : Kept g.row.R.Denot). IsExact g.R.Entries m k) (sym c.kept-item.is)
          (exact at c.kept-item.result c.loop-kept-test.true)))
          (c.loop-kept.invariant.exact m same exact) refl;
      steps = omega (
        arith,
        c.weigh_cost-cost.ensures.steps,
        c.loop-kept.invariant.steps,
        kind_more c.args.limit.hard touched rules at before (before + more) more c.kept-item.result c.loop-kept-test.true
            c.kept-item.is refl refl refl,
      );
    }

pub returns-clause-part : goal.returns-clause-part
returns-clause-part g c = λ m same exact.
    kind_part c.args.limit.hard (cost_on g.R.Entries (table_counts c.args.change.now.table)) c.args.rules.now c.loop-kept.kept-index
    c.loop-kept.sum (c.loop-kept.invariant.exact m same exact)

pub returns-clause-whole : goal.returns-clause-whole
returns-clause-whole g c = λ m same exact within.
    kind_whole c.args.limit.hard (cost_on g.R.Entries (table_counts c.args.change.now.table)) c.args.rules.now
    c.loop-kept.kept-index c.loop-kept.sum (omega (arith, c.loop-kept-test.false))
    (c.loop-kept.invariant.exact m same exact)

pub returns-clause-steps : goal.returns-clause-steps
returns-clause-steps g c =
    let f : Weighted g.row.R.Denot → ℕ = λ w. touched_count g.R.Entries w.rule (games_of c.args.change.now) in
    omega (
      arith,
      c.loop-kept.invariant.steps,
      kind_part c.args.limit.hard f c.args.rules.now c.loop-kept.kept-index
          (sum_by (λ (k : Kept g.row.R.Denot). if_kind c.args.limit.hard f k.weighted)
          (take c.loop-kept.kept-index c.args.rules.now)) refl,
    )
