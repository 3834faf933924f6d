use Rattle.std.proofs.Common.{◌≡◌, ◌+◌, take}
use Rattle.rule_core.specs.Table.{table_counts}
use Rattle.descent.specs.Weighing.{IsWeighed, if_written}
use Rattle.descent.proofs.taker.take_entries.Given as goal

abbrev pub invariant-loop-place : goal.invariant-loop-place
invariant-loop-place g l = record {
  weighted : (g.T.Taker.kept_of l.taker).weighted ≡ (g.T.Taker.kept_of l.initial.taker).weighted;
  watched : (g.T.Taker.kept_of l.taker).watched ≡ (g.T.Taker.kept_of l.initial.taker).watched;
  vector : (g.T.Taker.kept_of l.taker).vector.items
      ≡ if_written g.T.Taker.writes
      (λ k. g.R.Entries.entry (g.T.Taker.kept_of l.initial.taker).weighted.rule k (table_counts l.cells))
      (take l.place l.keys.list) (g.T.Taker.kept_of l.initial.taker).vector.items;
  weighed : IsWeighed
      (λ k. g.R.Entries.entry (g.T.Taker.kept_of l.initial.taker).weighted.rule k (table_counts l.cells))
      (take l.place l.keys.list) (g.T.Taker.kept_of l.initial.taker).vector.items (g.T.Taker.deviation_of l.taker);
  steps : l.steps ≡ l.initial.steps + l.place;
}
