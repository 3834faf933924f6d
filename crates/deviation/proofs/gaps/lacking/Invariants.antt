use Rattle.std.proofs.Common.{◌≡◌, ◌+◌, ◌-◌, ◌*◌, ◌<◌, ◌≤◌, ◌++◌, replicate}
use Rattle.std.specs.List.{flat_map, range_with_len}
use Rattle.std.specs.Option.{IfSome, option_to_list}
use Rattle.league.specs.Counts.{slot_count}
use Rattle.league.specs.Separation.{lacking, se1_entry}
use Rattle.rule_core.specs.Table.{table_counts}
use Rattle.deviation.proofs.gaps.lacking.Given as goal

abbrev pub invariant-loop-slot : goal.invariant-loop-slot
invariant-loop-slot l = record {
  before : IfSome l.last (λ before. before < l.slot);
  bounded : l.total ≤ 20000 * 4294967296 * l.slot;
  counted : l.total + lacking l.min (option_to_list l.last ++ flat_map
      (λ s. replicate (table_counts l.cells l.first.0 l.second.0 s + table_counts l.cells l.second.0 l.first.0 s) s)
      (range_with_len l.slot (slot_count l.cells.n - l.slot))) ≡ se1_entry l.cells.n (table_counts l.cells) l.min
      (l.first.0, l.second.0);
}
