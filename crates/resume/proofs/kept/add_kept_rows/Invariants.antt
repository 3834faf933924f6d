use Rattle.std.proofs.Common.{◌≡◌, ◌+◌, ◌*◌, ◌≤◌, ◌++◌, length}
use Rattle.rule_core.specs.Table.{table_counts}
use Rattle.resume.specs.Kept.{kept_rows}
use Rattle.resume.proofs.kept.add_kept_rows.Given as goal

abbrev pub invariant-loop-slot : goal.invariant-loop-slot
invariant-loop-slot l = record {
  so_far : l.rows ≡ l.fn.rows ++ kept_rows l.cells.n (table_counts l.cells) l.slot;
  few : length l.rows ≤ length l.fn.rows + 1560 * l.slot;
}
