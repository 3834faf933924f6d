use Rattle.std.proofs.Common.{◌≡◌, ◌+◌, ◌*◌, ◌≤◌, ◌++◌, length, map, take}
use Rattle.std.specs.List.{range_with_len}
use Rattle.encoding.specs.Encoding.{constraint_rows}
use Rattle.encoding.specs.RowRanges.{first_behind}
use Rattle.encoding.proofs.writer.add_constraint_rows.Given as goal

abbrev pub invariant-loop-constraint : goal.invariant-loop-constraint
invariant-loop-constraint l = record {
  so_far : l.draft.rows ≡ l.fn.draft.rows ++ constraint_rows l.season (take l.constraint-index l.constraints);
  few : length l.draft.rows ≤ length l.fn.draft.rows + 121680 * l.constraint-index;
  starts : l.starts.items
      ≡ map (first_behind (length l.fn.draft.rows) l.season l.constraints) (range_with_len 0 l.constraint-index);
}
