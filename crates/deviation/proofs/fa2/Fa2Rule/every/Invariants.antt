use Rattle.std.proofs.Common.{◌≡◌, ◌+◌, ◌++◌, map, vec_len}
use Rattle.std.specs.Prelude.{vec_capacity}
use Rattle.std.specs.List.{range_with_len}
use Rattle.league.specs.Deviation.{entry_of}
use Rattle.rule_core.specs.Table.{table_counts}
use Rattle.deviation.specs.Fa2.{class_of}
use Rattle.deviation.proofs.fa2.Fa2Rule.every.Given as goal

abbrev pub invariant-loop-key : goal.invariant-loop-key
invariant-loop-key g l = record {
  entries : l.entries.items ≡ l.fn.entries.items ++ map
      (λ k. entry_of l.self.n (table_counts l.cells) (class_of l.self) k) (range_with_len 0 l.key);
  pushed : vec_len l.entries ≡ vec_len l.fn.entries + l.key;
  room : vec_capacity l.entries ≡ vec_capacity l.fn.entries;
}
