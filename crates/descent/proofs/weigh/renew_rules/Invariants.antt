use Rattle.std.proofs.Common.{◌≡◌, ◌+◌, ◌≤◌, ℕ, get_or, map, take}
use Rattle.std.specs.List.{All, AllWithin, sum_by}
use Rattle.league.specs.Counts.{Counts}
use Rattle.rule_core.specs.Table.{table_counts}
use Rattle.descent.specs.Change.{LeadsFrom, games_of}
use Rattle.descent.specs.Ready.{AreReady, IsExact}
use Rattle.descent.specs.Tallies.{touched_count}
use Rattle.descent.specs.declared.kept.Kept.{Kept}
use Rattle.descent.proofs.weigh.renew_rules.Given as goal

abbrev pub invariant-loop-kept : goal.invariant-loop-kept
invariant-loop-kept g l = record {
  weights : map (λ k. k.weighted) l.rules ≡ map (λ k. k.weighted) l.initial.rules;
  later : (k : ℕ) (d : Kept g.row.R.Denot) → l.kept-index ≤ k → get_or l.rules k d ≡ get_or l.initial.rules k d;
  ready : AreReady g.R.Entries l.change.table.n l.bench l.rules l.sums;
  exact : (m : Counts) → LeadsFrom m l.change → All (IsExact g.R.Entries m) l.initial.rules → AllWithin (IsExact g.R.Entries (table_counts l.change.table)) l.rules 0 l.kept-index;
  steps : l.steps ≡ l.initial.steps + sum_by (λ k. touched_count g.R.Entries k.weighted.rule (games_of l.change)) (take l.kept-index l.initial.rules);
}
