use Rattle.std.proofs.Common.{◌≡◌, ◌+◌, ◌*◌, ◌^◌, ◌≤◌, length, take}
use Rattle.std.specs.List.{All, sum_by}
use Rattle.league.specs.Counts.{Counts}
use Rattle.rule_core.specs.Table.{table_counts}
use Rattle.descent.specs.Bench.{OnlyUsed}
use Rattle.descent.specs.Change.{LeadsFrom, games_of}
use Rattle.descent.specs.Ready.{IsExact}
use Rattle.descent.specs.Tallies.{cost_on, touched_count}
use Rattle.descent.specs.Weighing.{if_kind}
use Rattle.descent.proofs.weigh.weigh_kind.Given as goal

abbrev pub invariant-loop-kept : goal.invariant-loop-kept
invariant-loop-kept g l = record {
  bench : OnlyUsed l.initial.bench l.bench;
  small : l.sum ≤ 2 ^ 96 * sum_by (λ k. length k.vector.items) (take l.kept-index l.rules);
  exact : (m : Counts) → LeadsFrom m l.change → All (IsExact g.R.Entries m) l.rules
      → l.sum ≡ sum_by (λ k. if_kind l.limit.hard (cost_on g.R.Entries (table_counts l.change.table)) k.weighted) (take l.kept-index l.rules);
  steps : l.steps
      ≡ l.initial.steps + sum_by (λ k. if_kind l.limit.hard (λ w. touched_count g.R.Entries w.rule (games_of l.change)) k.weighted)
      (take l.kept-index l.rules);
}
