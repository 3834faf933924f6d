use Rattle.std.proofs.Common.{◌≡◌, ◌≤◌, ◌+◌, ◌++◌, map}
use Rattle.std.specs.List.{range_with_len}
use Rattle.std.specs.Prelude.{vec_capacity, vec_len}
use Rattle.rule_core.specs.Table.{table_counts}
use Rattle.rule_core.proofs.rule.Rule.every.Given as goal

abbrev pub invariant-loop-key : goal.invariant-loop-key
invariant-loop-key g l = record {
  pushed : l.entries.items ≡ l.fn.entries.items ++ map (λ k. g.Self.Entries.entry l.self k (table_counts l.cells))
      (range_with_len 0 l.key);
  ticked : l.steps ≡ l.fn.steps + l.key;
  long : vec_len l.entries ≡ vec_len l.fn.entries + l.key;
  room : vec_capacity l.fn.entries ≤ vec_capacity l.entries;
}
